-- Steps of the functions that find the first term and the input of its bits.
use Rattle.std.proofs.Common.{◌≡◌, ◌≢◌, ◌∙◌, ap, sym, refl, subst, ◌⊎◌, inl, inr, ℕ, zero, suc, ◌<◌, ◌≤◌, ◌+◌, ◌*◌, ◌-◌, ◌^◌, Bool, false, ◌||◌, List, [], ◌∷◌, ◌++◌, length, drop, Some, arith}
use Rattle.std.specs.Prelude.{slice_get, slice_index_or}
use Rattle.std.specs.declared.cmp.Ordering.TheVariants.{Less, Greater}
use Rattle.std.specs.Ordering.{ordering_reverse}
use Rattle.std.specs.List.{AllByRecursion}
use Rattle.std.proofs.Math.Nat.{pow-succ', mul-le-mul_left}
use Rattle.std.proofs.lemmas.Bool.{cases_lt, cases_eq, ne_eqb}
use Rattle.std.proofs.lemmas.List.{append_assoc, length-append}
use Rattle.std.proofs.lemmas.Option.{slice_get_within}
use Rattle.circuit_model.proofs.SharedLemmas.{from_word}
use Rattle.net_words.specs.declared.bound.BoundWord.{BoundWord}
use Rattle.net_words.specs.declared.word.Role.{Role}
use Rattle.net_words.specs.declared.word.Role.TheVariants.{Input, State, Fed, Output}
use Rattle.circuit_model.specs.Word.{Word}
use Rattle.circuit_model.specs.OfBinding.{word_with, words_of}
use Rattle.poly_mixed.specs.Monomial.{Monomial}
use Rattle.poly_mixed.specs.Polynomial.{Terms, point}
use Rattle.poly_mixed.proofs.SimpleLemmas.{zeros8}
use Rattle.poly_mixed.proofs.SubsetLemmas.{is_in}
use Rattle.circuit_model.specs.Ones.{ones_cmp, ones_cmp_total}
use Rattle.spec_compare.specs.private.First.{IsFirstTerm, IsFirstTo}
use Rattle.spec_compare.specs.private.InputOf.{inputs_from}
use Rattle.spec_compare.specs.ValueAt.{at_ones}

pub doubled : (n count : ℕ) → n < 2 ^ (count - 1) → (count ≡ 0 → ⊥) → 1 + 2 * n < 2 ^ count
doubled n zero less some = absurd (some refl)
doubled n (suc count) less some =
    let e : suc count - 1 ≡ count = omega arith in
    let P : ℕ → Type 0 = λ m. n < 2 ^ m in
    let low = subst P e less in
    omega (arith, low, pow-succ' 2 count)

-- room for one more word
pub room : (role : Role) (basis : List ℕ) (n : ℕ) → (role ≡ Input) ⊎ (role ≡ State) ⊎ (role ≡ Fed) → ((nets : List ℕ) → n + length (word_with role nets basis) ≤ 8) → n ≤ 7
room role basis n is few =
    let P : Role → Type 0 = λ r. n + length (word_with r [] basis) ≤ 8 in
    elim is [
      | inl e ↦ let l : n + 1 ≤ 8 = subst P e (few []) in omega arith
      | inr other ↦ elim other [
        | inl e ↦ let l : n + 1 ≤ 8 = subst P e (few []) in omega arith
        | inr e ↦ let l : n + 1 ≤ 8 = subst P e (few []) in omega arith
      ]
    ]

pub room_product : (k n : ℕ) → k ≤ 64 → n ≤ 7 → k * n + k ≤ 512
room_product k n small few = omega (arith, mul-le-mul_left {m = n} {n = 7} k few)

-- ---- bits by rank

past : (bits : List Bool) (r : ℕ) → length bits ≤ r → slice_index_or bits r false ≡ false
past [] r more = refl
past (b ∷ bs) zero more = absurd (omega arith)
past (b ∷ bs) (suc r) more = past bs r (omega arith)

none_from : (n : ℕ) (ones : List ℕ) (r : ℕ) → AllByRecursion (λ x. x < n) ones → n ≤ r → is_in ones r ≡ false
none_from n [] r all more = refl
none_from n (x ∷ ones) r all more = (λ i. ne_eqb x r (λ e. let l = all.0 in omega (arith, e, l)) i || is_in ones r) ∙ none_from n ones r all.1 more

pub all_bits : (bits : List Bool) (ones : List ℕ) (n i : ℕ) → length bits ≡ n → n ≤ i → AllByRecursion (λ x. x < n) ones → ((r : ℕ) → r < i → slice_index_or bits r false ≡ is_in ones r) → (r : ℕ) → slice_index_or bits r false ≡ is_in ones r
all_bits bits ones n i long whole all so_far r =
    elim (cases_lt r n) [
      | inl less ↦ so_far r (omega arith)
      | inr more ↦ past bits r (omega arith) ∙ sym (none_from n ones r all more)
    ]

pub same_point : (bits : List Bool) (ones : List ℕ) → ((r : ℕ) → slice_index_or bits r false ≡ is_in ones r) → point zeros8 bits ≡ at_ones ones
same_point bits ones same = λ i. record { words = zeros8; is_one = λ r. same r i }

-- ---- the first term

before_trans : (a b c : List ℕ) → ones_cmp a b ≡ Greater → ones_cmp a c ≢ Greater → ones_cmp b c ≢ Greater
before_trans a b c up first g =
    let down : ones_cmp b a ≡ Less = ones_cmp_total.antisymm b a ∙ ap ordering_reverse up in
    let back : ones_cmp c b ≡ Less = ones_cmp_total.antisymm c b ∙ ap ordering_reverse g in
    let low : ones_cmp c a ≡ Less = ones_cmp_total.trans c b a back down in
    first (ones_cmp_total.antisymm a c ∙ ap ordering_reverse low)

same_first : (a : List ℕ) → ones_cmp a a ≢ Greater
same_first a g =
    let other : ones_cmp a a ≡ Less = ones_cmp_total.antisymm a a ∙ ap ordering_reverse g in
    let bad : Greater ≡ Less = sym g ∙ other in cc

-- one more term, which comes before the first so far
pub next_before : (ts : Terms) (i best : ℕ) (v w : Monomial × ℕ) → slice_get ts best ≡ Some v → slice_get ts i ≡ Some w → ones_cmp v.0.bits w.0.bits ≡ Greater → IsFirstTo ts i best → IsFirstTo ts (i + 1) i
next_before ts i best v w at_best at_i up first j t u less at_t at_u =
    let same : w ≡ t = cc in
    let P : Monomial × ℕ → Type 0 = λ x. ones_cmp x.0.bits u.0.bits ≢ Greater in
    elim (cases_eq j i) [
      | inl e ↦
          let Q : ℕ → Type 0 = λ n. slice_get ts n ≡ Some u in
          let at : slice_get ts i ≡ Some u = subst Q e at_u in
          let equal : w ≡ u = cc in
          let R : Monomial × ℕ → Type 0 = λ x. ones_cmp w.0.bits x.0.bits ≢ Greater in
          subst P same (subst R equal (same_first w.0.bits))
      | inr n ↦ subst P same (before_trans v.0.bits w.0.bits u.0.bits up (first j v u (omega arith) at_best at_u))
    ]

-- one more term, which does not
pub next_after : (ts : Terms) (i best : ℕ) (v w : Monomial × ℕ) → slice_get ts best ≡ Some v → slice_get ts i ≡ Some w → ones_cmp v.0.bits w.0.bits ≢ Greater → IsFirstTo ts i best → IsFirstTo ts (i + 1) best
next_after ts i best v w at_best at_i low first j t u less at_t at_u =
    elim (cases_eq j i) [
      | inl e ↦
          let Q : ℕ → Type 0 = λ n. slice_get ts n ≡ Some u in
          let at : slice_get ts i ≡ Some u = subst Q e at_u in
          let equal : w ≡ u = cc in
          let same : v ≡ t = cc in
          let P : Monomial × ℕ → Type 0 = λ x. ones_cmp x.0.bits u.0.bits ≢ Greater in
          let R : Monomial × ℕ → Type 0 = λ x. ones_cmp v.0.bits x.0.bits ≢ Greater in
          subst P same (subst R equal low)
      | inr n ↦ first j t u (omega arith) at_t at_u
    ]

pub first_of_all : (ts : Terms) (i best : ℕ) (t : Monomial × ℕ) → length ts ≤ i → slice_get ts best ≡ Some t → IsFirstTo ts i best → IsFirstTerm ts t
first_of_all ts i best t whole at first = record { has = (best, at); first = λ u has. first has.0 t u (omega (arith, slice_get_within ts has.0 u has.1)) at has.1 }

-- ---- the words of a circuit, one after another

inputs_after : (k : ℕ) (ones : List ℕ) (w : ℕ) (us vs : List Word) → inputs_from k ones w (us ++ vs) ≡ inputs_from k ones w us ++ inputs_from k ones (w + length us) vs
inputs_after k ones w [] vs = let e : w ≡ w + 0 = omega arith in ap (λ n. inputs_from k ones n vs) e
inputs_after k ones w (u ∷ us) vs =
    let e : w + 1 + length us ≡ w + suc (length us) = omega arith in
    ap (λ xs. inputs_from k ones w (u ∷ []) ++ xs) (inputs_after k ones (w + 1) us vs ∙ ap (λ n. inputs_from k ones (w + 1) us ++ inputs_from k ones n vs) e)

pub inputs_long : (k : ℕ) (ones : List ℕ) (w : ℕ) (ws : List Word) → length (inputs_from k ones w ws) ≡ length ws
inputs_long k ones w [] = refl
inputs_long k ones w (u ∷ us) = ap suc (inputs_long k ones (w + 1) us)

module _ (k : ℕ) (ones : List ℕ) (words : List BoundWord) (bases : List (List ℕ)) (v : ℕ) (word : BoundWord) (basis : List ℕ) (got : slice_get words v ≡ Some word) (at : slice_get bases v ≡ Some basis) (list : List ℕ)
    (so_far : list ++ inputs_from k ones (length list) (words_of (drop v words) (drop v bases)) ≡ inputs_from k ones 0 (words_of words bases)) where
  pub next_inputs : (new : List ℕ) → new ≡ list ++ inputs_from k ones (length list) (word_with word.role word.nets basis) → new ++ inputs_from k ones (length new) (words_of (drop (v + 1) words) (drop (v + 1) bases)) ≡ inputs_from k ones 0 (words_of words bases)
  next_inputs new is =
      let e : v + 1 ≡ suc v = omega arith in
      let rest = words_of (drop (suc v) words) (drop (suc v) bases) in
      let here = word_with word.role word.nets basis in
      let long : length new ≡ length list + length here = ap length is ∙ (length-append list (inputs_from k ones (length list) here) ∙ ap (λ n. length list + n) (inputs_long k ones (length list) here)) in
      ap (λ n. new ++ inputs_from k ones (length new) (words_of (drop n words) (drop n bases))) e
      ∙ (λ i. is i ++ inputs_from k ones (long i) rest)
      ∙ append_assoc list (inputs_from k ones (length list) here) (inputs_from k ones (length list + length here) rest)
      ∙ ap (λ xs. list ++ xs) (sym (inputs_after k ones (length list) here rest) ∙ ap (inputs_from k ones (length list)) (sym (from_word words bases v word basis got at)))
      ∙ so_far

  role_long : (role : Role) (ms ns : List ℕ) → length (word_with role ms basis) ≡ length (word_with role ns basis)
  role_long Input ms ns = refl
  role_long State ms ns = refl
  role_long Fed ms ns = refl
  role_long Output ms ns = refl

  pub still_few : length (words_of words bases) ≤ 8 → (nets : List ℕ) → length list + length (word_with word.role nets basis) ≤ 8
  still_few few nets =
      let rest = words_of (drop (suc v) words) (drop (suc v) bases) in
      let here = word_with word.role word.nets basis in
      let whole : length list + length (words_of (drop v words) (drop v bases)) ≡ length (words_of words bases) =
      ap (λ n. length list + n) (sym (inputs_long k ones (length list) (words_of (drop v words) (drop v bases))))
      ∙ sym (length-append list (inputs_from k ones (length list) (words_of (drop v words) (drop v bases)))) ∙ ap length so_far ∙ inputs_long k ones 0 (words_of words bases) in
      let parts : length (words_of (drop v words) (drop v bases)) ≡ length here + length rest = ap length (from_word words bases v word basis got at) ∙ length-append here rest in
      omega (arith, whole, parts, few, role_long word.role nets word.nets)
