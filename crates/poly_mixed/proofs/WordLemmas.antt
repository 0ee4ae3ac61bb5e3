-- Polynomials in words that are 0 everywhere, by induction over the words.
use Rattle.std.proofs.Common.{◌≡◌, ℕ, zero, suc, ◌≢◌, Bool, true, false, cond, ◌==◌, List, [], ◌∷◌, length, bit_xor, refl, sym, ◌∙◌, ap, subst, arith}
use lib.Bits.{xor_zero_l, xor_zero_r}
use Rattle.std.specs.declared.cmp.Ordering.TheVariants.{Less, Equal}
use Rattle.std.specs.Cmp.{nat_cmp_total, tied_itself}
use Rattle.std.specs.Ordering.{nat_cmp, ordering_then}
use Rattle.std.specs.List.{AllByRecursion}
use Rattle.std.specs.List.Sorted.{IsStrictlySortedBy}
use Rattle.std.specs.Map.{keys_of}
use Rattle.std.proofs.lemmas.Bool.{eqb-true, eq-eqb}
use Rattle.std.proofs.lemmas.List.{nil_from_length}
use Rattle.poly_mixed.specs.Polynomial.{IsElement}
use Rattle.poly_mixed.proofs.FieldLaws.{IsField}
use Rattle.poly_mixed.proofs.Independent.{IsPower, power_value, IsIndependent}
use Rattle.poly_mixed.specs.Monomial.{exponents_cmp}
use Rattle.poly_mixed.specs.Polynomial.{powers}
use Rattle.gf_field.specs.Power.{power}
use Rattle.poly_mixed.specs.Sum.{xor_sum}
use Rattle.poly_mixed.proofs.ValueLemmas.{powers_element, power_element, one_element}

abbrev pub word_value : (ℕ → ℕ → ℕ) → List ℕ → List ℕ × ℕ → ℕ
word_value mul ws t = mul t.1 (powers mul t.0 ws)

abbrev first : List ℕ → ℕ
first [] = 0
first (x ∷ xs) = x

abbrev rest : List ℕ → List ℕ
rest [] = []
rest (x ∷ xs) = xs

-- a term in n words
pub record IsWordTerm (degree : ℕ) (n : ℕ) (t : List ℕ × ℕ) : Type 0 where
  pub words : length t.0 ≡ n
  pub exponents : AllByRecursion (IsElement degree) t.0
  pub element : IsElement degree t.1
  pub nonzero : t.1 ≢ 0

-- the terms with this exponent of the first word, without_bit it
abbrev slice : ℕ → List (List ℕ × ℕ) → List (List ℕ × ℕ)
slice e [] = []
slice e (t ∷ ts) = cond (first t.0 == e) ((rest t.0, t.1) ∷ slice e ts) (slice e ts)

-- each term at the later words, as a term in the first one
abbrev in_first : (ℕ → ℕ → ℕ) → List ℕ → List (List ℕ × ℕ) → List (ℕ × ℕ)
in_first mul ws [] = []
in_first mul ws (t ∷ ts) = (first t.0, mul t.1 (powers mul (rest t.0) ws)) ∷ in_first mul ws ts

in_first-slice : (degree : ℕ) (mul : ℕ → ℕ → ℕ) (ws : List ℕ) (e : ℕ) (ts : List (List ℕ × ℕ)) → xor_sum (λ (t : ℕ × ℕ). cond (t.0 == e) t.1 0) (in_first mul ws ts) ≡ xor_sum (word_value mul ws) (slice e ts)
in_first-slice degree mul ws e [] = refl
in_first-slice degree mul ws e (t ∷ ts) =
    elim (first t.0 == e) as (λ b. bit_xor (cond b (mul t.1 (powers mul (rest t.0) ws)) 0) (xor_sum (λ (u : ℕ × ℕ). cond (u.0 == e) u.1 0) (in_first mul ws ts)) ≡ xor_sum (word_value mul ws) (cond b ((rest t.0, t.1) ∷ slice e ts) (slice e ts))) [
      | true ↦ ap (bit_xor (mul t.1 (powers mul (rest t.0) ws))) (in_first-slice degree mul ws e ts)
      | false ↦ xor_zero_l _ ∙ in_first-slice degree mul ws e ts
    ]

-- the order of two lists with one first exponent is that of the rests
rest_less : (n : ℕ) (x y : List ℕ) → length x ≡ suc n → length y ≡ suc n → first x ≡ first y → exponents_cmp x y ≡ Less → exponents_cmp (rest x) (rest y) ≡ Less
rest_less n [] y p q e l = absurd (omega arith)
rest_less n (i ∷ xs) [] p q e l = absurd (omega arith)
rest_less n (i ∷ xs) (j ∷ ys) p q e l =
    let tie : nat_cmp j i ≡ Equal = (let P : ℕ → Type 0 = λ m. nat_cmp m i ≡ Equal in subst P e (tied_itself nat_cmp_total i)) in
    sym (ap (λ r. ordering_then r (exponents_cmp xs ys)) tie) ∙ l

module _ {degree : ℕ} {mul : ℕ → ℕ → ℕ} (f : IsField degree mul) where
  slice_below : (n e : ℕ) (x : List ℕ) (ts : List (List ℕ × ℕ)) → length x ≡ suc n → first x ≡ e → AllByRecursion (IsWordTerm degree (suc n)) ts → AllByRecursion (λ y. exponents_cmp x y ≡ Less) (keys_of ts) → AllByRecursion (λ y. exponents_cmp (rest x) y ≡ Less) (keys_of (slice e ts))
  slice_below n e x [] p q all up = tt
  slice_below n e x (t ∷ ts) p q all up =
      elim (first t.0 == e) as (λ b. (first t.0 == e) ≡ b → AllByRecursion (λ y. exponents_cmp (rest x) y ≡ Less) (keys_of (cond b ((rest t.0, t.1) ∷ slice e ts) (slice e ts)))) [
        | true ↦ λ h. (rest_less n x t.0 p all.0.words (q ∙ sym (eqb-true _ _ h)) up.0, slice_below n e x ts p q all.1 up.1)
        | false ↦ λ h. slice_below n e x ts p q all.1 up.1
      ] refl

  slice_sorted : (n e : ℕ) (ts : List (List ℕ × ℕ)) → AllByRecursion (IsWordTerm degree (suc n)) ts → IsStrictlySortedBy exponents_cmp (keys_of ts) → IsStrictlySortedBy exponents_cmp (keys_of (slice e ts))
  unfolding IsStrictlySortedBy
  slice_sorted n e [] all s = tt
  slice_sorted n e (t ∷ ts) all s =
      elim (first t.0 == e) as (λ b. (first t.0 == e) ≡ b → IsStrictlySortedBy exponents_cmp (keys_of (cond b ((rest t.0, t.1) ∷ slice e ts) (slice e ts)))) [
        | true ↦ λ h. (slice_below n e t.0 ts all.0.words (eqb-true _ _ h) all.1 s.0, slice_sorted n e ts all.1 s.1)
        | false ↦ λ h. slice_sorted n e ts all.1 s.1
      ] refl

  rest_term : (n : ℕ) (x : List ℕ) (c : ℕ) → IsWordTerm degree (suc n) (x, c) → IsWordTerm degree n (rest x, c) × IsElement degree (first x)
  rest_term n [] c h = absurd (omega (arith, h.words))
  rest_term n (i ∷ xs) c h = (record { words = omega (arith, h.words); exponents = h.exponents.1; element = h.element; nonzero = h.nonzero }, h.exponents.0)

  slice_terms : (n e : ℕ) (ts : List (List ℕ × ℕ)) → AllByRecursion (IsWordTerm degree (suc n)) ts → AllByRecursion (IsWordTerm degree n) (slice e ts)
  slice_terms n e [] all = tt
  slice_terms n e (t ∷ ts) all =
      elim (first t.0 == e) as (λ b. AllByRecursion (IsWordTerm degree n) (cond b ((rest t.0, t.1) ∷ slice e ts) (slice e ts))) [
        | true ↦ ((rest_term n t.0 t.1 all.0).0, slice_terms n e ts all.1)
        | false ↦ slice_terms n e ts all.1
      ]

  in_first_terms : (n : ℕ) (ws : List ℕ) (ts : List (List ℕ × ℕ)) → AllByRecursion (IsElement degree) ws → AllByRecursion (IsWordTerm degree (suc n)) ts → AllByRecursion (IsPower degree) (in_first mul ws ts)
  in_first_terms n ws [] up all = tt
  in_first_terms n ws (t ∷ ts) up all =
      (((rest_term n t.0 t.1 all.0).1, f.closed t.1 (powers mul (rest t.0) ws) all.0.element (powers_element f (rest t.0) ws up)), in_first_terms n ws ts up all.1)

  one_value : (n w : ℕ) (ws x : List ℕ) (c : ℕ) → IsElement degree w → AllByRecursion (IsElement degree) ws → IsElement degree c → length x ≡ suc n → mul (mul c (powers mul (rest x) ws)) (power mul w (first x)) ≡ mul c (powers mul x (w ∷ ws))
  one_value n w ws [] c hw up hc l = absurd (omega arith)
  one_value n w ws (i ∷ xs) c hw up hc l =
      let hp = powers_element f xs ws up in
      let hq = power_element f w i hw in
      f.assoc c (powers mul xs ws) (power mul w i) hc hp hq ∙ ap (mul c) (f.comm (powers mul xs ws) (power mul w i) hp hq)

  in_first-value : (n w : ℕ) (ws : List ℕ) (ts : List (List ℕ × ℕ)) → IsElement degree w → AllByRecursion (IsElement degree) ws → AllByRecursion (IsWordTerm degree (suc n)) ts → xor_sum (power_value mul w) (in_first mul ws ts) ≡ xor_sum (word_value mul (w ∷ ws)) ts
  in_first-value n w ws [] hw up all = refl
  in_first-value n w ws (t ∷ ts) hw up all = λ i. bit_xor (one_value n w ws t.0 t.1 hw up all.0.element all.0.words i) (in_first-value n w ws ts hw up all.1 i)

  alone : (t : List ℕ × ℕ) (ts : List (List ℕ × ℕ)) → AllByRecursion (IsWordTerm degree 0) (t ∷ ts) → AllByRecursion (λ y. exponents_cmp t.0 y ≡ Less) (keys_of ts) → ts ≡ []
  alone t [] all up = refl
  alone t (u ∷ ts) all up =
      let x = nil_from_length t.0 all.0.words in
      let y = nil_from_length u.0 all.1.0.words in
      let bad : exponents_cmp [] [] ≡ Less = (λ i. exponents_cmp (sym x i) (sym y i)) ∙ up.0 in cc

  module _ (ind : IsIndependent degree mul) where
    pub no_word_terms : (n : ℕ) (ts : List (List ℕ × ℕ)) → AllByRecursion (IsWordTerm degree n) ts → IsStrictlySortedBy exponents_cmp (keys_of ts) → ((ws : List ℕ) → length ws ≡ n → AllByRecursion (IsElement degree) ws → xor_sum (word_value mul ws) ts ≡ 0) → ts ≡ []
    unfolding IsStrictlySortedBy
    no_word_terms n [] all s zeros = refl
    no_word_terms zero (t ∷ ts) all s zeros =
        let none : ts ≡ [] = alone t ts all s.0 in
        let x : t.0 ≡ [] = nil_from_length t.0 all.0.words in
        let sum : bit_xor (mul t.1 (powers mul t.0 [])) (xor_sum (word_value mul []) ts) ≡ 0 = zeros [] refl tt in
        let one : t.1 ≡ 0 =
        sym ((λ i. bit_xor (mul t.1 (powers mul (x i) [])) (xor_sum (word_value mul []) (none i)))
        ∙ xor_zero_r (mul t.1 1) ∙ f.comm t.1 1 all.0.element (one_element f) ∙ f.neutral t.1 all.0.element) ∙ sum in
        absurd (all.0.nonzero one)
    no_word_terms (suc n) (t ∷ ts) all s zeros =
        let e = first t.0 in
        let gone : slice e (t ∷ ts) ≡ [] =
        no_word_terms n (slice e (t ∷ ts)) (slice_terms n e (t ∷ ts) all) (slice_sorted n e (t ∷ ts) all s)
        (λ ws l up. sym (in_first-slice degree mul ws e (t ∷ ts))
        ∙ ind.apart (in_first mul ws (t ∷ ts)) (in_first_terms n ws (t ∷ ts) up all)
        (λ w hw. in_first-value n w ws (t ∷ ts) hw up all ∙ zeros (w ∷ ws) (omega arith) (hw, up)) e) in
        let P : Bool → Type 0 = λ b. cond b ((rest t.0, t.1) ∷ slice e ts) (slice e ts) ≡ [] in
        let bad : (rest t.0, t.1) ∷ slice e ts ≡ [] = subst P (eq-eqb e e refl) gone in cc
