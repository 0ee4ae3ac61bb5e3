-- What multipliers are known by tells them apart, and tells how they are written.
use Rattle.std.proofs.Common.{◌≡◌, ◌≢◌, ◌∙◌, ap, sym, refl, subst, ℕ, zero, suc, ◌+◌, ◌-◌, ◌≤◌, ◌==◌, ◌&&◌, true, false, cond, not, List, [], ◌∷◌, ◌++◌, length, get_or, nat_lt, Option, Some, None, arith, codes}
use Rattle.std.specs.Cmp.{tied_itself}
use Rattle.std.specs.Cmp.Lexicographic.{slice_cmp}
use Rattle.std.specs.List.{AllByRecursion}
use Rattle.std.specs.Option.{option_map, unwrap_or}
use Rattle.std.specs.Ordering.{nat_cmp, is_eq}
use Rattle.std.specs.Prelude.{map, replicate}
use Rattle.std.specs.Str.{bytes_eq}
use Rattle.std.specs.declared.cmp.Ordering.TheVariants.{Equal}
use Rattle.std.proofs.lemmas.Bool.{ltb-true, ne_eqb}
use Rattle.std.proofs.lemmas.Slice.Eq.{bytes_eq-Decides}
use Rattle.lists.specs.laws.BoolLaws.{both_ways}
use Rattle.lists.specs.laws.OrderingLaws.{is_equal, both_equal}
use Rattle.poly_mixed.specs.Labels.{Labelling, bit_count, rank_text}
use Rattle.poly_mixed.specs.Monomial.{Monomial, text_cmp}
use Rattle.poly_mixed.specs.Polynomial.{Polynomial, Terms, IsMap, coefficient}
use Rattle.poly_mixed.specs.Slots.{AreSlotsOf, slot_at, term_in}
use Rattle.poly_mixed.specs.Text.{text, term_text, powers_texts, factor_texts, joined, is_none}
use Rattle.poly_mixed.specs.laws.TextLaw.{IsWritten}
use Rattle.poly_mixed.proofs.MonomialLemmas.{text_cmp-same}
use Rattle.poly_mixed.proofs.TextLaws.{one_text}
use Rattle.text_core.specs.Numbers.{hex_text}
use Rattle.cert_make.specs.Sharing.{are_same}
use Rattle.cert_make.specs.private.Kept.{monomial_kept, terms_kept}
use Rattle.cert_make.specs.private.Keys.{KeyParts, rest_cmp, key_cmp, key_cmp_total, is_key, place_below, place_of_bits, place_of_monomial, short_form, key_from, key_by, factor_text, short_text, key_text}
use Rattle.cert_make.proofs.SameLemmas.{number_same, same_equal, same_from}

-- ---- keys

list_same : (xs ys : List ℕ) → slice_cmp nat_cmp xs ys ≡ Equal → xs ≡ ys
list_same [] [] e = refl
list_same [] (y ∷ ys) e = absurd (cc)
list_same (x ∷ xs) [] e = absurd (cc)
list_same (x ∷ xs) (y ∷ ys) e =
    let each = both_equal (nat_cmp x y) (slice_cmp nat_cmp xs ys) e in
    λ i. number_same x y each.0 i ∷ list_same xs ys each.1 i

key_same : (t q : KeyParts) → key_cmp t q ≡ Equal → t ≡ q
key_same t q e =
    let first = both_equal (nat_cmp t.coefficient q.coefficient) (rest_cmp t q) e in
    let rest = both_equal (nat_cmp t.place q.place) (slice_cmp nat_cmp t.bytes q.bytes) first.1 in
    λ i. record { coefficient = number_same t.coefficient q.coefficient first.0 i; place = number_same t.place q.place rest.0 i; bytes = list_same t.bytes q.bytes rest.1 i }

-- a key that is tested to be this one is equal to it
pub key_is : (t q : KeyParts) → is_key t q ≡ true → q ≡ t
key_is t q e = sym (key_same t q (is_equal (key_cmp t q) e))

-- and the other way round
pub is_itself : (t q : KeyParts) → q ≡ t → is_key t q ≡ true
is_itself t q e =
    let P : KeyParts → Type 0 = λ k. is_key t k ≡ true in
    subst P (sym e) (ap is_eq (tied_itself key_cmp_total t))

-- ---- terms with a place

-- the ranks at a place
abbrev bits_at : ℕ → List ℕ
bits_at place = cond (place == 0) [] ((place - 1) ∷ [])

-- the monomial at a place
abbrev monomial_at : ℕ → Monomial
monomial_at place = record { exponents = replicate 8 0; bits = bits_at place }

bits_back : (r : ℕ) → bits_at (r + 1) ≡ r ∷ []
bits_back r =
    let some : (r + 1 == 0) ≡ false = ne_eqb (r + 1) 0 (λ e. omega (arith, e)) in
    let back : r + 1 - 1 ≡ r = omega arith in
    ap (λ b. cond b [] ((r + 1 - 1) ∷ [])) some ∙ ap (λ (n : ℕ). n ∷ []) back

bits_of_place : (bound : ℕ) (bits : List ℕ) (p : ℕ) → place_of_bits bound bits ≡ Some p → (bits ≡ bits_at p) × (p ≤ bound)
bits_of_place bound [] p e =
    let P : ℕ → Type 0 = λ n. ([] ≡ bits_at n) × (n ≤ bound) in
    let same : ◌≡◌ {A = ℕ} 0 p = cc in
    subst P same (refl, omega arith)
bits_of_place bound (r ∷ []) p e =
    (elim (nat_lt r bound) as (λ b. nat_lt r bound ≡ b → cond b (Some (r + 1)) None ≡ Some p → ((r ∷ []) ≡ bits_at p) × (p ≤ bound)) [
      | true ↦ λ low is. (
          let P : ℕ → Type 0 = λ n. ((r ∷ []) ≡ bits_at n) × (n ≤ bound) in
          let same : r + 1 ≡ p = cc in
          let less = ltb-true r bound low in
          subst P same (sym (bits_back r), omega (arith, less))
          )
      | false ↦ λ high is. absurd (cc)
    ]) refl e
bits_of_place bound (r ∷ s ∷ rs) p e = absurd (cc)

-- what is known of a monomial with a place
record HasPlace (bound : ℕ) (m : Monomial) (p : ℕ) : Type 0 where
  words : m.exponents ≡ replicate 8 0
  bits : m.bits ≡ bits_at p
  low : p ≤ bound

monomial_of_place : (bound : ℕ) (m : Monomial) (p : ℕ) → place_of_monomial bound m ≡ Some p → HasPlace bound m p
monomial_of_place bound m p e =
    (elim (bytes_eq m.exponents (replicate 8 0)) as (λ b. bytes_eq m.exponents (replicate 8 0) ≡ b → cond b (place_of_bits bound m.bits) None ≡ Some p → HasPlace bound m p) [
      | true ↦ λ words is. (let bits = bits_of_place bound m.bits p is in record { words = (bytes_eq-Decides m.exponents (replicate 8 0)).0 words; bits = bits.0; low = bits.1 })
      | false ↦ λ words is. absurd (cc)
    ]) refl e

-- what is known of terms with a short form
record IsShort (bound : ℕ) (ts : Terms) (s : ℕ × ℕ) : Type 0 where
  is : ts ≡ (monomial_at s.1, s.0) ∷ []
  low : s.1 ≤ bound

short_is : (bound : ℕ) (ts : Terms) (s : ℕ × ℕ) → short_form bound ts ≡ Some s → IsShort bound ts s
short_is bound [] s e = absurd (cc)
short_is bound (t ∷ []) s e =
    (elim (place_of_monomial bound t.0) as (λ o. place_of_monomial bound t.0 ≡ o → option_map (λ p. (t.1, p)) o ≡ Some s → IsShort bound (t ∷ []) s) [
      | None ↦ λ none is. absurd (cc)
      | Some p ↦ λ some is. (
          let P : ℕ × ℕ → Type 0 = IsShort bound (t ∷ []) in
          let same : ◌≡◌ {A = ℕ × ℕ} (t.1, p) s = cc in
          let has = monomial_of_place bound t.0 p some in
          subst P same (record { is = λ i. (record { exponents = has.words i; bits = has.bits i }, t.1) ∷ []; low = has.low })
          )
    ]) refl e
short_is bound (t ∷ u ∷ ts) s e = absurd (cc)

-- its coefficient is not 0
short_some : (bound : ℕ) (ts : Terms) (s : ℕ × ℕ) → IsMap ts → short_form bound ts ≡ Some s → s.0 ≢ 0
short_some bound ts s map e =
    let P : Terms → Type 0 = λ us. AllByRecursion (λ t. t.1 ≢ 0) us in
    (subst P (short_is bound ts s e).is map.nonzero).0

-- ---- multipliers with one key are the same

module _ (l : Labelling) (k : ℕ) (ts us : Terms) (is : IsWritten l k ts) (also : IsWritten l k us) where
  one_key : key_by l ts ≡ key_by l us → ts ≡ us
  unfolding key_by
  one_key same = by (short_form (bit_count l.words) ts) (short_form (bit_count l.words) us) refl refl same
    where
      by : (o p : Option (ℕ × ℕ)) → short_form (bit_count l.words) ts ≡ o → short_form (bit_count l.words) us ≡ p → key_from o (text l ts) ≡ key_from p (text l us) → ts ≡ us
      by None None e f same = one_text l k ts us is also (ap (λ (q : KeyParts). q.bytes) same)
      by None (Some s) e f same = absurd (short_some (bit_count l.words) us s also.reduced.is_map f (sym (ap (λ (q : KeyParts). q.coefficient) same)))
      by (Some s) None e f same = absurd (short_some (bit_count l.words) ts s is.reduced.is_map e (ap (λ (q : KeyParts). q.coefficient) same))
      by (Some s) (Some r) e f same =
          (short_is (bit_count l.words) ts s e).is
          ∙ ap (λ (q : KeyParts). (monomial_at q.place, q.coefficient) ∷ []) same
          ∙ sym (short_is (bit_count l.words) us r f).is

  -- of polynomials that can be written the keys tell whether they are the same
  pub keys_tell : is_key (key_by l us) (key_by l ts) ≡ are_same ts us
  keys_tell =
      both_ways (is_key (key_by l us) (key_by l ts)) (are_same ts us)
      (λ e. same_from ts us (one_key (key_is (key_by l us) (key_by l ts) e)))
      (λ e. is_itself (key_by l us) (key_by l ts) (ap (key_by l) (same_equal ts us e)))

-- ---- how they are written

no_powers : (ws : List (List ℕ × ℕ)) (n : ℕ) → powers_texts ws (replicate n 0) ≡ []
no_powers [] n = refl
no_powers (w ∷ ws) zero = refl
no_powers (w ∷ ws) (suc n) = no_powers ws n

-- a coefficient alone, and one with a variable
alone : (c : ℕ) → joined (codes "*") (factor_texts c []) ≡ hex_text c
alone c = elim (c == 1) as (λ b. joined (codes "*") (cond (b && not (is_none [])) [] (hex_text c ∷ [])) ≡ hex_text c) [ true ↦ refl | false ↦ refl ]

scaled : (c : ℕ) (v : List ℕ) → joined (codes "*") (factor_texts c (v ∷ [])) ≡ factor_text c ++ v
scaled c v = elim (c == 1) as (λ b. joined (codes "*") (cond (b && not (is_none (v ∷ []))) (v ∷ []) (hex_text c ∷ v ∷ [])) ≡ cond b [] (hex_text c ++ codes "*") ++ v) [ true ↦ refl | false ↦ refl ]

term_at : (l : Labelling) (c place : ℕ) → term_text l (monomial_at place, c) ≡ short_text l c place
term_at l c place =
    ap (λ (ps : List (List ℕ)). joined (codes "*") (factor_texts c (ps ++ map (rank_text l.words l.nets) (bits_at place)))) (no_powers l.words 8)
    ∙ (elim (place == 0) as (λ b. joined (codes "*") (factor_texts c ([] ++ map (rank_text l.words l.nets) (cond b [] ((place - 1) ∷ [])))) ≡ cond b (hex_text c) (factor_text c ++ rank_text l.words l.nets (place - 1))) [
      | true ↦ alone c
      | false ↦ scaled c (rank_text l.words l.nets (place - 1))
    ])

-- what a multiplier is known by is written as its text
pub key_tells : (l : Labelling) (ts : Terms) → IsMap ts → key_text l (key_by l ts) ≡ text l ts
unfolding key_by
key_tells l ts map = by (short_form (bit_count l.words) ts) refl
  where
    by : (o : Option (ℕ × ℕ)) → short_form (bit_count l.words) ts ≡ o → key_text l (key_from o (text l ts)) ≡ text l ts
    by None e = refl
    by (Some s) e =
        ap (λ b. cond b [] (short_text l s.0 s.1)) (ne_eqb s.0 0 (short_some (bit_count l.words) ts s map e))
        ∙ sym (term_at l s.0 s.1)
        ∙ sym (ap (text l) (short_is (bit_count l.words) ts s e).is)

-- its place is that of a bit of a word, or none
pub key_low : (l : Labelling) (ts : Terms) → (key_by l ts).place ≤ bit_count l.words
unfolding key_by
key_low l ts = by (short_form (bit_count l.words) ts) refl
  where
    by : (o : Option (ℕ × ℕ)) → short_form (bit_count l.words) ts ≡ o → (key_from o (text l ts)).place ≤ bit_count l.words
    by None e = omega arith
    by (Some s) e = (short_is (bit_count l.words) ts s e).low

-- a key that is made is the one that the terms are known by
pub key_made : (l : Labelling) (ts : Terms) (o : Option (ℕ × ℕ)) → o ≡ short_form (bit_count l.words) ts → key_from o (text l ts) ≡ key_by l ts
unfolding key_by
key_made l ts o is = ap (λ (p : Option (ℕ × ℕ)). key_from p (text l ts)) is

-- ---- by the number of ranks and of terms

pub place_without : (bound : ℕ) (bits : List ℕ) → length bits ≡ 0 → place_of_bits bound bits ≡ Some 0
place_without bound [] long = refl
place_without bound (r ∷ rs) long = absurd (omega (arith, long))

pub place_with_one : (bound : ℕ) (bits : List ℕ) (r : ℕ) → length bits ≡ 1 → r ≡ get_or bits 0 r → place_of_bits bound bits ≡ place_below bound r
place_with_one bound [] r long is = absurd (omega (arith, long))
place_with_one bound (x ∷ []) r long is = ap (place_below bound) (sym is)
place_with_one bound (x ∷ y ∷ xs) r long is = absurd (omega (arith, long))

pub place_with_more : (bound : ℕ) (bits : List ℕ) → (length bits ≡ 0 → ⊥) → (length bits ≡ 1 → ⊥) → place_of_bits bound bits ≡ None
place_with_more bound [] some more = absurd (some refl)
place_with_more bound (r ∷ []) some more = absurd (more refl)
place_with_more bound (r ∷ s ∷ rs) some more = refl

pub form_of_one : (bound : ℕ) (ts : Terms) (t : Monomial × ℕ) → length ts ≡ 1 → t ≡ get_or ts 0 t → short_form bound ts ≡ option_map (λ p. (t.1, p)) (place_of_monomial bound t.0)
form_of_one bound [] t long is = absurd (omega (arith, long))
form_of_one bound (x ∷ []) t long is = ap (λ (u : Monomial × ℕ). option_map (λ p. (u.1, p)) (place_of_monomial bound u.0)) (sym is)
form_of_one bound (x ∷ y ∷ xs) t long is = absurd (omega (arith, long))

pub form_of_more : (bound : ℕ) (ts : Terms) → (length ts ≡ 1 → ⊥) → short_form bound ts ≡ None
form_of_more bound [] more = refl
form_of_more bound (t ∷ []) more = absurd (more refl)
form_of_more bound (t ∷ u ∷ ts) more = refl

-- ---- what is kept of a multiplier

-- the key of a coefficient alone, of one with a bit of a word, and of one with a net
pub key_of_constant : (l : Labelling) (c : ℕ) → record { coefficient = c; place = 0; bytes = [] } ≡ key_by l ((monomial_kept None, c) ∷ [])
unfolding key_by
key_of_constant l c = refl

pub key_with_rank : (l : Labelling) (c r : ℕ) (o : Option ℕ) → o ≡ place_below (bit_count l.words) r → key_from (option_map (λ p. (c, p)) o) (text l ((monomial_kept (Some r), c) ∷ [])) ≡ key_by l ((monomial_kept (Some r), c) ∷ [])
unfolding key_by
key_with_rank l c r o is = ap (λ (p : Option ℕ). key_from (option_map (λ q. (c, q)) p) (text l ((monomial_kept (Some r), c) ∷ []))) is

-- the only term
pub only_term : (ts : Terms) (m : Monomial) (c : ℕ) → length ts ≡ 1 → c ≡ coefficient ts m → c ≢ 0 → ts ≡ (m, c) ∷ []
only_term [] m c long is some = absurd (omega (arith, long))
only_term (t ∷ []) m c long is some =
    (elim (is_eq (text_cmp m t.0)) as (λ b. is_eq (text_cmp m t.0) ≡ b → c ≡ unwrap_or (cond b (Some t.1) None) 0 → (t ∷ []) ≡ (m, c) ∷ []) [
      | true ↦ λ same at. λ i. (sym (text_cmp-same m t.0 (is_equal (text_cmp m t.0) same)) i, sym at i) ∷ []
      | false ↦ λ other at. absurd (some at)
    ]) refl is
only_term (t ∷ u ∷ ts) m c long is some = absurd (omega (arith, long))

-- what a slot tells of a monomial
abbrev told_at : Terms → Monomial → ℕ × Monomial
told_at ts m = (coefficient ts m, m)

-- what stands in a slot of a polynomial of one term is its only term
pub only_slot : (p : Polynomial) (slot c : ℕ) (m : Monomial) → length p.terms ≡ 1 → AreSlotsOf p.terms p.slots → ◌≡◌ {A = Option (ℕ × Monomial)} (Some (c, m)) (term_in p slot) → (p.terms ≡ (m, c) ∷ []) × (c ≢ 0)
only_slot p slot c m long are is =
    (elim (slot_at p.slots slot) as (λ o. slot_at p.slots slot ≡ o → ◌≡◌ {A = Option (ℕ × Monomial)} (Some (c, m)) (option_map (told_at p.terms) o) → (p.terms ≡ (m, c) ∷ []) × (c ≢ 0)) [
      | None ↦ λ at same. absurd (cc)
      | Some n ↦ λ at same. (
          let both : ◌≡◌ {A = ℕ × Monomial} (c, m) (told_at p.terms n) = cc in
          let here : n ≡ m = sym (ap (λ (q : ℕ × Monomial). q.1) both) in
          let counts : c ≡ coefficient p.terms m = ap (λ (q : ℕ × Monomial). q.0) both ∙ ap (coefficient p.terms) here in
          let P : ℕ → Type 0 = λ x. x ≢ 0 in
          let some : c ≢ 0 = subst P (sym (ap (λ (q : ℕ × Monomial). q.0) both)) (are.only slot n at) in
          (only_term p.terms m c long counts some, some)
          )
    ]) refl is

-- a term that is kept by its numbers
pub term_kept : (c : ℕ) (rank : Option ℕ) (ts us : Terms) → us ≡ (monomial_kept rank, c) ∷ [] → c ≢ 0 → terms_kept c rank ts ≡ us
term_kept c rank ts us is some = ap (λ b. cond b ts ((monomial_kept rank, c) ∷ [])) (ne_eqb c 0 some) ∙ sym is
