-- The term of a polynomial in bits whose bits come first: where its bits are 1 the value is its coefficient, and no input
-- at which the value is not 0 comes before.
use Rattle.std.proofs.Common.{◌≡◌, ◌≢◌, ◌∙◌, ap, sym, refl, subst, inl, inr, ℕ, zero, suc, ◌≤◌, true, false, cond, List, [], ◌∷◌, length, bit_xor, arith}
use lib.Bits.{xor_zero_l, xor_zero_r}
use Rattle.std.specs.declared.cmp.Ordering.TheVariants.{Less, Equal, Greater}
use Rattle.std.specs.Cmp.{tied_itself}
use Rattle.std.specs.Ordering.{nat_cmp, ordering_reverse}
use Rattle.std.specs.List.{AllByRecursion, list_all}
use Rattle.std.specs.List.Sorted.{IsStrictlySortedBy}
use Rattle.std.specs.Map.{keys_of}
use Rattle.std.proofs.lemmas.Bool.{cases_lt, false_from_ne_true}
use Rattle.lists.specs.Lists.{Has}
use Rattle.poly_mixed.specs.Monomial.{Monomial, text_cmp, text_cmp_total}
use Rattle.poly_mixed.specs.Polynomial.{Terms, IsTerm, powers, term_value, value}
use Rattle.poly_mixed.specs.laws.Uniqueness.{IsZeros}
use Rattle.poly_mixed.proofs.FieldLaws.{IsField}
use Rattle.poly_mixed.proofs.SubsetLemmas.{is_in, subset, whole}
use Rattle.poly_mixed.proofs.UniquenessLemmas.{zeros_same, zero_powers}
use Rattle.poly_mixed.proofs.SimpleLemmas.{zeros8}
use Rattle.poly_mixed.proofs.ValueLemmas.{one_element}
use Rattle.circuit_model.specs.Ones.{ones_cmp}
use Rattle.circuit_model.proofs.DifferingLemmas.{longer_after, shorter_before}
use Rattle.spec_compare.specs.ValueAt.{at_ones}

-- ---- the order

no_longer : (a b : List ℕ) → ones_cmp a b ≢ Greater → length a ≤ length b
no_longer a b p = elim (cases_lt (length b) (length a)) [ inl l ↦ absurd (p (longer_after a b l)) | inr l ↦ l ]

-- ---- values in bits

abbrev pub IsBitTerm : ℕ → Monomial × ℕ → Type 0
IsBitTerm k t = IsTerm k t × IsZeros t.0.exponents

-- of two monomials without words neither of which is the other, the second has a bit that the first one lacks where its
-- bits do not come before
apart : (k : ℕ) (t u : Monomial × ℕ) → IsBitTerm k t → IsBitTerm k u → ones_cmp t.0.bits u.0.bits ≢ Greater → (text_cmp t.0 u.0 ≡ Equal → ⊥) → list_all (is_in t.0.bits) u.0.bits ≡ false
apart k t u a b first other =
    false_from_ne_true (list_all (is_in t.0.bits) u.0.bits) (λ h.
    elim (subset t.0.bits u.0.bits a.0.monomial.rising b.0.monomial.rising h) [
      | inl l ↦ first (longer_after t.0.bits u.0.bits l)
      | inr e ↦ other (tie (zeros_same t.0.exponents u.0.exponents a.1 b.1 (a.0.monomial.words ∙ sym b.0.monomial.words)) (sym e))
    ])
  where
    tie : t.0.exponents ≡ u.0.exponents → t.0.bits ≡ u.0.bits → text_cmp t.0 u.0 ≡ Equal
    tie p q =
        let same : t.0 ≡ u.0 = λ i. record { exponents = p i; bits = q i } in
        let P : Monomial → Type 0 = λ m. text_cmp t.0 m ≡ Equal in
        subst P same (tied_itself text_cmp_total t.0)

key_has : (x : Monomial) (us : Terms) (u : Monomial × ℕ) → AllByRecursion (λ y. text_cmp x y ≡ Less) (keys_of us) → Has us u → text_cmp x u.0 ≡ Less
key_has x [] u up has = let got = has.1 in absurd (cc)
key_has x (v ∷ us) u up (zero, got) = let same : v ≡ u = cc in let P : Monomial × ℕ → Type 0 = λ w. text_cmp x w.0 ≡ Less in subst P same up.0
key_has x (v ∷ us) u up (suc k, got) = key_has x us u up.1 (k, got)

pub term_has : (P : Monomial × ℕ → Type 0) (us : Terms) (u : Monomial × ℕ) → AllByRecursion P us → Has us u → P u
term_has P [] u all has = let got = has.1 in absurd (cc)
term_has P (v ∷ us) u all (zero, got) = let same : v ≡ u = cc in subst P same all.0
term_has P (v ∷ us) u all (suc k, got) = term_has P us u all.1 (k, got)

-- the terms after a first one lack some of its bits
later : (k : ℕ) (t : Monomial × ℕ) (us : Terms) → IsBitTerm k t → AllByRecursion (IsBitTerm k) us → ((u : Monomial × ℕ) → Has us u → ones_cmp t.0.bits u.0.bits ≢ Greater) → AllByRecursion (λ y. text_cmp t.0 y ≡ Less) (keys_of us) → AllByRecursion (λ u. list_all (is_in t.0.bits) u.0.bits ≡ false) us
later k t [] a all first up = tt
later k t (u ∷ us) a all first up =
    (apart k t u a all.0 (first u (0, refl)) (λ e. let bad : Less ≡ Equal = sym up.0 ∙ e in cc), later k t us a all.1 (λ v has. first v (suc has.0, has.1)) up.1)

module _ {degree : ℕ} {mul : ℕ → ℕ → ℕ} (f : IsField degree mul) where
  -- a term whose bits are not all among these adds nothing
  off : (s : List ℕ) (u : Monomial × ℕ) → list_all (is_in s) u.0.bits ≡ false → term_value mul (at_ones s) u ≡ 0
  off s u e = ap (λ b. cond b (mul u.1 (powers mul u.0.exponents zeros8)) 0) e

  none : (s : List ℕ) (us : Terms) → AllByRecursion (λ u. list_all (is_in s) u.0.bits ≡ false) us → value mul (at_ones s) us ≡ 0
  none s [] all = refl
  none s (u ∷ us) all = λ i. bit_xor (off s u all.0 i) (none s us all.1 i)

  on : (s : List ℕ) (u : Monomial × ℕ) → IsBitTerm degree u → list_all (is_in s) u.0.bits ≡ true → term_value mul (at_ones s) u ≡ u.1
  on s u is e =
      ap (λ b. cond b (mul u.1 (powers mul u.0.exponents zeros8)) 0) e
      ∙ ap (mul u.1) (zero_powers f u.0.exponents zeros8 is.1) ∙ f.comm u.1 1 is.0.element (one_element f) ∙ f.neutral u.1 is.0.element

  -- where its bits are 1 and no others, the value is the coefficient of the first term
  pub at_first : (ts : Terms) (t : Monomial × ℕ) → AllByRecursion (IsBitTerm degree) ts → IsStrictlySortedBy text_cmp (keys_of ts) → ((u : Monomial × ℕ) → Has ts u → ones_cmp t.0.bits u.0.bits ≢ Greater) → Has ts t → value mul (at_ones t.0.bits) ts ≡ t.1
  unfolding IsStrictlySortedBy
  at_first [] t all up first has = let got = has.1 in absurd (cc)
  at_first (u ∷ us) t all up first (zero, got) =
      let same : u ≡ t = cc in
      let P : Monomial × ℕ → Type 0 = λ v. value mul (at_ones v.0.bits) (u ∷ us) ≡ v.1 in
      let Q : Monomial × ℕ → Type 0 = λ v. (w : Monomial × ℕ) → Has us w → ones_cmp v.0.bits w.0.bits ≢ Greater in
      let more : (w : Monomial × ℕ) → Has us w → ones_cmp u.0.bits w.0.bits ≢ Greater = subst Q (sym same) (λ w has. first w (suc has.0, has.1)) in
      subst P same ((λ i. bit_xor (on u.0.bits u all.0 (whole u.0.bits) i) (none u.0.bits us (later degree u us all.0 all.1 more up.0) i)) ∙ xor_zero_r u.1)
  at_first (u ∷ us) t all up first (suc k, got) =
      let is = term_has (IsBitTerm degree) us t all.1 (k, got) in
      let before : text_cmp u.0 t.0 ≡ Less = key_has u.0 us t up.0 (k, got) in
      let after : text_cmp t.0 u.0 ≡ Greater = text_cmp_total.antisymm t.0 u.0 ∙ ap ordering_reverse before in
      let lacks = apart degree t u is all.0 (first u (0, refl)) (λ e. let bad : Greater ≡ Equal = sym after ∙ e in cc) in
      (λ i. bit_xor (off t.0.bits u lacks i) (value mul (at_ones t.0.bits) us)) ∙ xor_zero_l (value mul (at_ones t.0.bits) us)
      ∙ at_first us t all.1 up.1 (λ w has. first w (suc has.0, has.1)) (k, got)

  -- where the value is not 0, all bits of some term are 1
  some_on : (s : List ℕ) (ts : Terms) → value mul (at_ones s) ts ≢ 0 → (u : Monomial × ℕ) × Has ts u × (list_all (is_in s) u.0.bits ≡ true)
  some_on s [] n = absurd (n refl)
  some_on s (u ∷ us) n =
      elim (list_all (is_in s) u.0.bits) as (λ b. list_all (is_in s) u.0.bits ≡ b → (v : Monomial × ℕ) × Has (u ∷ us) v × (list_all (is_in s) v.0.bits ≡ true)) [
        | true ↦ λ e. (u, (0, refl), e)
        | false ↦ λ e.
            let rest = some_on s us (λ z. n ((λ i. bit_xor (off s u e i) (z i)))) in
            (rest.0, (suc rest.1.0, rest.1.1), rest.2)
      ] refl

  -- no list of ranks at which the value is not 0 comes before the bits of the first term
  pub before_none : (s : List ℕ) (ts : Terms) (t : Monomial × ℕ) → AllByRecursion (IsBitTerm degree) ts → IsStrictlySortedBy nat_cmp s → ((u : Monomial × ℕ) → Has ts u → ones_cmp t.0.bits u.0.bits ≢ Greater) → value mul (at_ones s) ts ≢ 0 → ones_cmp t.0.bits s ≢ Greater
  before_none s ts t all up first n =
      let found = some_on s ts n in
      let is = term_has (IsBitTerm degree) ts found.0 all found.1 in
      let low = first found.0 found.1 in
      elim (subset s found.0.0.bits up is.0.monomial.rising found.2) [
        | inl l ↦ λ g. let bad : Less ≡ Greater = sym (shorter_before t.0.bits s (omega (arith, no_longer t.0.bits found.0.0.bits low, l))) ∙ g in cc
        | inr e ↦ (let P : List ℕ → Type 0 = λ b. ones_cmp t.0.bits b ≢ Greater in subst P e low)
      ]
