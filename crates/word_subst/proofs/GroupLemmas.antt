-- A polynomial in one word that is added to the polynomial of its monomial.
use Rattle.std.proofs.Common.{◌≡◌, ◌≢◌, ◌∙◌, ap, sym, refl, subst, ℕ, ◌<◌, ◌≤◌, ◌+◌, cond, [], ◌∷◌, ◌++◌, length, bit_xor, slice_index, Some, arith}
use Rattle.std.specs.Int.Bits.{xor_zero_l, xor_zero_r, xor_assoc, xor_comm}
use Rattle.std.specs.declared.cmp.Ordering.TheVariants.{Less, Equal, Greater}
use Rattle.std.specs.Ordering.{match_ordering, eq_by_cmp, is_eq}
use Rattle.std.specs.List.{AllByRecursion, list_all}
use Rattle.std.specs.List.Sorted.{IsStrictlySortedBy}
use Rattle.std.specs.Map.{lookup, keys_of}
use Rattle.std.specs.Option.{unwrap_or}
use Rattle.std.specs.BTreeMap.{insert_entry}
use Rattle.std.proofs.lemmas.Map.{lookup-none}
use Rattle.std.proofs.lemmas.Map.Entries.{none_below_head}
use Rattle.std.proofs.lemmas.Map.Keys.{sorted_tail}
use Rattle.poly_mixed.specs.Monomial.{Monomial, text_cmp, text_cmp_total}
use Rattle.poly_mixed.specs.Polynomial.{Terms, Point, powers, term_value, value}
use Rattle.poly_mixed.specs.Sum.{plus}
use Rattle.poly_mixed.proofs.FieldLaws.{IsField}
use Rattle.poly_mixed.proofs.MonomialLemmas.{text_cmp-same}
use Rattle.poly_mixed.proofs.ValueLemmas.{powers_element}
use Rattle.stage_model.proofs.SharedLemmas.{plus_append}
use Rattle.word_subst.specs.Univariate.{Powers, IsUnivariate, value_of}
use Rattle.word_subst.specs.Spread.{Groups, total, found, spread, all_terms, IsRest, IsGroup, IsAdded, AddsGroup}
use Rattle.word_subst.proofs.UnivariateLemmas.{xor_sum-append, no_powers, value_of_element}
use Rattle.word_subst.proofs.SpreadLemmas.{spread_value, word_element}
use Rattle.word_subst.proofs.ChoiceLemmas.{sum_where}

nothing_below : (m : Monomial) (g : Monomial × Powers) (gs : Groups) → IsStrictlySortedBy text_cmp (keys_of (g ∷ gs)) → text_cmp m g.0 ≡ Less → found m (g ∷ gs) ≡ []
nothing_below m g gs up less = ap (λ o. unwrap_or o []) (lookup-none (eq_by_cmp text_cmp m) (g ∷ gs) (none_below_head text_cmp_total m g gs up less))

pub found_univariate : (k : ℕ) (m : Monomial) (gs : Groups) → AllByRecursion (λ g. IsUnivariate k g.1) gs → IsUnivariate k (found m gs)
found_univariate k m [] all = no_powers k
found_univariate k m (g ∷ gs) all = elim (text_cmp m g.0) as (λ r. IsUnivariate k (unwrap_or (cond (is_eq r) (Some g.1) (lookup (eq_by_cmp text_cmp m) gs)) [])) [
  | Less ↦ found_univariate k m gs all.1
  | Equal ↦ all.0
  | Greater ↦ found_univariate k m gs all.1
]

-- what an entry has is one of the polynomials
pub entry_univariate : (k : ℕ) (m : Monomial) (gs : Groups) (us : Powers) → AllByRecursion (λ g. IsUnivariate k g.1) gs → lookup (eq_by_cmp text_cmp m) gs ≡ Some us → IsUnivariate k us
entry_univariate k m gs us all got = subst (IsUnivariate k) (ap (λ o. unwrap_or o []) got) (found_univariate k m gs all)

module _ (m : Monomial) (sum : Powers) where
  inserted_total : (gs : Groups) → IsStrictlySortedBy text_cmp (keys_of gs) → total (insert_entry text_cmp gs m sum) + length (found m gs) ≡ total gs + length sum
  inserted_total [] up = omega arith
  inserted_total (g ∷ gs) up =
      elim (text_cmp m g.0) as (λ r. text_cmp m g.0 ≡ r → total (match_ordering r ((m, sum) ∷ g ∷ gs) ((g.0, sum) ∷ gs) (g ∷ insert_entry text_cmp gs m sum)) + length (unwrap_or (cond (is_eq r) (Some g.1) (lookup (eq_by_cmp text_cmp m) gs)) []) ≡ length g.1 + total gs + length sum) [
        | Less ↦ λ e.
            let none : found m (g ∷ gs) ≡ [] = nothing_below m g gs up e in
            let rest : found m gs ≡ [] = sym (ap (λ r. unwrap_or (cond (is_eq r) (Some g.1) (lookup (eq_by_cmp text_cmp m) gs)) []) e) ∙ none in
            omega (arith, ap length rest)
        | Equal ↦ λ e. omega arith
        | Greater ↦ λ e. omega (arith, inserted_total gs (sorted_tail text_cmp g.0 (keys_of gs) up))
      ] refl

  module _ (w k : ℕ) (rest : IsRest w k m) (is : IsUnivariate k sum) where
    pub inserted_groups : (gs : Groups) → AllByRecursion (IsGroup w k) gs → AllByRecursion (IsGroup w k) (insert_entry text_cmp gs m sum)
    inserted_groups [] all = (record { rest = rest; powers = is }, tt)
    inserted_groups (g ∷ gs) all =
        elim (text_cmp m g.0) as (λ r. AllByRecursion (IsGroup w k) (match_ordering r ((m, sum) ∷ g ∷ gs) ((g.0, sum) ∷ gs) (g ∷ insert_entry text_cmp gs m sum))) [
          | Less ↦ (record { rest = rest; powers = is }, all)
          | Equal ↦ (record { rest = all.0.rest; powers = is }, all.1)
          | Greater ↦ (all.0, inserted_groups gs all.1)
        ]

  module _ (mul : ℕ → ℕ → ℕ) (w : ℕ) (p : Point) (part : Powers) where
    inserted_value : (gs : Groups) → IsStrictlySortedBy text_cmp (keys_of gs) → value mul p (spread w m sum) ≡ bit_xor (value mul p (spread w m (found m gs))) (value mul p (spread w m part))
        → value mul p (all_terms w (insert_entry text_cmp gs m sum)) ≡ bit_xor (value mul p (all_terms w gs)) (value mul p (spread w m part))
    inserted_value [] up adds = xor_sum-append (term_value mul p) (spread w m sum) [] ∙ (xor_zero_r (value mul p (spread w m sum)) ∙ adds)
    inserted_value (g ∷ gs) up adds =
        elim (text_cmp m g.0) as (λ r. text_cmp m g.0 ≡ r → value mul p (spread w m sum) ≡ bit_xor (value mul p (spread w m (unwrap_or (cond (is_eq r) (Some g.1) (lookup (eq_by_cmp text_cmp m) gs)) []))) (value mul p (spread w m part))
        → value mul p (all_terms w (match_ordering r ((m, sum) ∷ g ∷ gs) ((g.0, sum) ∷ gs) (g ∷ insert_entry text_cmp gs m sum))) ≡ bit_xor (value mul p (spread w g.0 g.1 ++ all_terms w gs)) (value mul p (spread w m part))) [
          | Less ↦ λ e here.
              let none : found m (g ∷ gs) ≡ [] = nothing_below m g gs up e in
              let rest : found m gs ≡ [] = sym (ap (λ r. unwrap_or (cond (is_eq r) (Some g.1) (lookup (eq_by_cmp text_cmp m) gs)) []) e) ∙ none in
              let old = value mul p (spread w g.0 g.1 ++ all_terms w gs) in
              let new = value mul p (spread w m part) in
              let own : value mul p (spread w m sum) ≡ new = here ∙ (ap (λ us. bit_xor (value mul p (spread w m us)) new) rest ∙ xor_zero_l new) in
              xor_sum-append (term_value mul p) (spread w m sum) (spread w g.0 g.1 ++ all_terms w gs) ∙ (ap (λ n. bit_xor n old) own ∙ xor_comm new old)
          | Equal ↦ λ e here.
              let same : m ≡ g.0 = text_cmp-same m g.0 e in
              let more = value mul p (all_terms w gs) in
              let was = value mul p (spread w g.0 g.1) in
              let new = value mul p (spread w m part) in
              let own : value mul p (spread w g.0 sum) ≡ bit_xor was new = ap (λ n. value mul p (spread w n sum)) (sym same) ∙ (here ∙ ap (λ n. bit_xor (value mul p (spread w n g.1)) new) same) in
              xor_sum-append (term_value mul p) (spread w g.0 sum) (all_terms w gs)
              ∙ (ap (λ n. bit_xor n more) own
              ∙ (xor_assoc was new more ∙ (ap (bit_xor was) (xor_comm new more) ∙ (sym (xor_assoc was more new) ∙ ap (λ n. bit_xor n new) (sym (xor_sum-append (term_value mul p) (spread w g.0 g.1) (all_terms w gs)))))))
          | Greater ↦ λ e here.
              let was = value mul p (spread w g.0 g.1) in
              let more = value mul p (all_terms w gs) in
              let new = value mul p (spread w m part) in
              xor_sum-append (term_value mul p) (spread w g.0 g.1) (all_terms w (insert_entry text_cmp gs m sum))
              ∙ (ap (bit_xor was) (inserted_value gs (sorted_tail text_cmp g.0 (keys_of gs) up) here)
              ∙ (sym (xor_assoc was more new) ∙ ap (λ n. bit_xor n new) (sym (xor_sum-append (term_value mul p) (spread w g.0 g.1) (all_terms w gs)))))
        ] refl adds

pub only_powers : (w k : ℕ) (gs : Groups) → AllByRecursion (IsGroup w k) gs → AllByRecursion (λ g. IsUnivariate k g.1) gs
only_powers w k [] all = tt
only_powers w k (g ∷ gs) all = (all.0.powers, only_powers w k gs all.1)

pub some_powers : (k : ℕ) (us : Powers) → IsUnivariate k us → AllByRecursion (λ t. t.1 ≢ 0) us
some_powers k [] is = tt
some_powers k (u ∷ us) is = (is.powers.0.some, some_powers k us (record { rising = is.rising.1; powers = is.powers.1 }))

pub some_of_groups : (w k : ℕ) (gs : Groups) → AllByRecursion (IsGroup w k) gs → AllByRecursion (λ g. AllByRecursion (λ t. t.1 ≢ 0) g.1) gs
some_of_groups w k [] all = tt
some_of_groups w k (g ∷ gs) all = (some_powers k g.1 all.0.powers, some_of_groups w k gs all.1)

module _ {k : ℕ} {mul : ℕ → ℕ → ℕ} (f : IsField k mul) (w : ℕ) (inside : w < 8) (m : Monomial) (part : Powers) (old new : Groups) (before after : ℕ) (rest : IsRest w k m) (is : IsUnivariate k part) (all : AllByRecursion (IsGroup w k) old) (up : IsStrictlySortedBy text_cmp (keys_of old)) (added : IsAdded k mul m part old new before after) where
  pub new_groups : AllByRecursion (IsGroup w k) new
  new_groups = let P : Groups → Type 0 = λ gs. AllByRecursion (IsGroup w k) gs in subst P (sym added.put) (inserted_groups m added.sum w k rest added.is.univariate old all)

  pub new_total : total new + before ≡ total old + after
  new_total = omega (arith, ap total added.put, inserted_total m added.sum old up, added.before_is, added.after_is)

  pub few_before : before ≤ total old
  few_before = omega (arith, added.before_is, few old)
    where
      few : (gs : Groups) → length (found m gs) ≤ total gs
      few [] = omega arith
      few (g ∷ gs) = elim (text_cmp m g.0) as (λ r. length (unwrap_or (cond (is_eq r) (Some g.1) (lookup (eq_by_cmp text_cmp m) gs)) []) ≤ length g.1 + total gs) [
        | Less ↦ omega (arith, few gs)
        | Equal ↦ omega arith
        | Greater ↦ omega (arith, few gs)
      ]

  pub few_after : after ≤ before + length part
  few_after = omega (arith, added.after_is, added.is.few, added.before_is)

  pub adds_group : AddsGroup k mul w m part old new
  adds_group p at =
      let x = slice_index p.words w in
      let hx = word_element f p w at inside in
      let q = powers mul m.exponents p.words in
      let hq = powers_element f m.exponents p.words at.elements in
      let u = found_univariate k m old (only_powers w k old all) in
      let a = value_of mul x (found m old) in
      let b = value_of mul x part in
      let both : value mul p (spread w m added.sum) ≡ bit_xor (value mul p (spread w m (found m old))) (value mul p (spread w m part)) =
      spread_value f w inside p m added.sum at rest added.is.univariate.powers
      ∙ (ap (λ n. cond (list_all p.is_one m.bits) (mul n q) 0) (added.is.values x hx)
      ∙ (sum_where f (list_all p.is_one m.bits) a b q (value_of_element f x (found m old) hx u.powers) (value_of_element f x part hx is.powers) hq
      ∙ (λ i. bit_xor (sym (spread_value f w inside p m (found m old) at rest u.powers) i) (sym (spread_value f w inside p m part at rest is.powers) i)))) in
      ap (λ gs. value mul p (all_terms w gs)) added.put ∙ inserted_value m added.sum mul w p part old up both

-- ---- the groups as one polynomial

pub groups_turn : (w : ℕ) (m : Monomial) (us : Powers) (rest next : Groups) (old new whole : Terms) → rest ≡ (m, us) ∷ next → new ≡ plus text_cmp old (spread w m us) → AllByRecursion (λ g. AllByRecursion (λ t. t.1 ≢ 0) g.1) rest
    → plus text_cmp old (all_terms w rest) ≡ whole → AllByRecursion (λ g. AllByRecursion (λ t. t.1 ≢ 0) g.1) next × (plus text_cmp new (all_terms w next) ≡ whole)
groups_turn w m us rest next old new whole split made all so_far =
    let P : Groups → Type 0 = λ gs. AllByRecursion (λ g. AllByRecursion (λ t. t.1 ≢ 0) g.1) gs in
    ((subst P split all).1, ap (λ ts. plus text_cmp ts (all_terms w next)) made ∙ (sym (plus_append old (spread w m us) (all_terms w next)) ∙ (ap (λ gs. plus text_cmp old (all_terms w gs)) (sym split) ∙ so_far)))
