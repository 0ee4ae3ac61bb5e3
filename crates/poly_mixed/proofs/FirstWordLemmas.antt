-- A polynomial whose values do not depend on the words from the n-th on has none of them.
use Rattle.std.proofs.Common.{◌≡◌, ℕ, zero, suc, Bool, true, false, cond, ◌==◌, List, [], ◌∷◌, length, take, drop, bit_xor, refl, sym, ◌∙◌, ap, subst, arith}
use lib.Bits.{xor_zero_l}
use Rattle.std.proofs.lemmas.Bool.{eqb-true, and_parts}
use Rattle.std.specs.List.{AllByRecursion, list_all, filter}
use Rattle.gf_field.specs.Power.{power}
use Rattle.poly_mixed.specs.Monomial.{Monomial}
use Rattle.poly_mixed.specs.Polynomial.{Terms, Point, IsPoint, IsTerm, IsReduced, IsElement, powers, term_value, value}
use Rattle.poly_mixed.specs.laws.Uniqueness.{IsZeros, InFirstWords, Unique}
use Rattle.poly_mixed.proofs.FieldLaws.{IsField}
use Rattle.poly_mixed.proofs.FilteredLemmas.{filter_reduced}
use Rattle.poly_mixed.proofs.UniquenessLemmas.{zero_powers}
use Rattle.poly_mixed.proofs.ValueLemmas.{zero_element, product_zero, power_element, powers_element, product_by_zero}

-- the first n elements, and 0 for the others
abbrev pub first_words : ℕ → List ℕ → List ℕ
first_words zero [] = []
first_words zero (w ∷ ws) = 0 ∷ first_words zero ws
first_words (suc n) [] = []
first_words (suc n) (w ∷ ws) = w ∷ first_words n ws

abbrev pub first_point : ℕ → Point → Point
first_point n p = record { words = first_words n p.words; is_one = p.is_one }

pub first_long : (n : ℕ) (ws : List ℕ) → length (first_words n ws) ≡ length ws
first_long zero [] = refl
first_long zero (w ∷ ws) = ap suc (first_long zero ws)
first_long (suc n) [] = refl
first_long (suc n) (w ∷ ws) = ap suc (first_long n ws)

pub first_taken : (n : ℕ) (ws : List ℕ) → take n (first_words n ws) ≡ take n ws
first_taken zero ws = refl
first_taken (suc n) [] = refl
first_taken (suc n) (w ∷ ws) = ap (λ vs. w ∷ vs) (first_taken n ws)

all_zero : List ℕ → Bool
all_zero es = list_all (λ e. e == 0) es

zeros_of : (es : List ℕ) → all_zero es ≡ true → IsZeros es
unfolding all_zero
zeros_of [] h = tt
zeros_of (e ∷ es) h = let p = and_parts (e == 0) (list_all (λ e. e == 0) es) h in (eqb-true e 0 p.0, zeros_of es p.1)

-- whether no word from the n-th on stands in the term
abbrev ends_early : ℕ → Monomial × ℕ → Bool
ends_early n t = all_zero (drop n t.0.exponents)

module _ {degree : ℕ} {mul : ℕ → ℕ → ℕ} (f : IsField degree mul) where
  first_elements : (n : ℕ) (ws : List ℕ) → AllByRecursion (IsElement degree) ws → AllByRecursion (IsElement degree) (first_words n ws)
  first_elements zero [] all = tt
  first_elements zero (w ∷ ws) all = (zero_element f, first_elements zero ws all.1)
  first_elements (suc n) [] all = tt
  first_elements (suc n) (w ∷ ws) all = (all.0, first_elements n ws all.1)

  pub is_first_point : (n : ℕ) (p : Point) → IsPoint degree p → IsPoint degree (first_point n p)
  is_first_point n p at = record { words = first_long n p.words ∙ at.words; elements = first_elements n p.words at.elements }

  -- a term in the first words has the same value
  kept : (n : ℕ) (es ws : List ℕ) → IsZeros (drop n es) → powers mul es (first_words n ws) ≡ powers mul es ws
  kept zero es ws z = zero_powers f es (first_words zero ws) z ∙ sym (zero_powers f es ws z)
  kept (suc n) [] ws z = refl
  kept (suc n) (e ∷ es) [] z = refl
  kept (suc n) (e ∷ es) (w ∷ ws) z = ap (mul (power mul w e)) (kept n es ws z)

  -- any other term has the value 0
  gone : (n : ℕ) (es ws : List ℕ) → length es ≡ length ws → AllByRecursion (IsElement degree) ws → all_zero (drop n es) ≡ false → powers mul es (first_words n ws) ≡ 0
  unfolding all_zero power
  gone zero [] ws l all h = cc
  gone zero (e ∷ es) [] l all h = absurd (omega arith)
  gone zero (zero ∷ es) (w ∷ ws) l all h =
      f.neutral (powers mul es (first_words zero ws)) (powers_element f es (first_words zero ws) (first_elements zero ws all.1)) ∙ gone zero es ws (omega arith) all.1 h
  gone zero (suc e ∷ es) (w ∷ ws) l all h =
      ap (λ x. mul x (powers mul es (first_words zero ws))) (product_zero f (power mul 0 e) (power_element f 0 e (zero_element f)))
      ∙ product_zero f (powers mul es (first_words zero ws)) (powers_element f es (first_words zero ws) (first_elements zero ws all.1))
  gone (suc n) [] ws l all h = cc
  gone (suc n) (e ∷ es) [] l all h = absurd (omega arith)
  gone (suc n) (e ∷ es) (w ∷ ws) l all h =
      ap (mul (power mul w e)) (gone n es ws (omega arith) all.1 h) ∙ product_by_zero f (power mul w e) (power_element f w e all.0)

  early_value : (n : ℕ) (p : Point) (ts : Terms) → IsPoint degree p → AllByRecursion (IsTerm degree) ts → value mul (first_point n p) ts ≡ value mul p (filter (ends_early n) ts)
  early_value n p [] at all = refl
  early_value n p (t ∷ ts) at all =
      elim (ends_early n t) as (λ b. ends_early n t ≡ b → value mul (first_point n p) (t ∷ ts) ≡ value mul p (cond b (t ∷ filter (ends_early n) ts) (filter (ends_early n) ts))) [
        | true ↦ λ e.
            let one = kept n t.0.exponents p.words (zeros_of (drop n t.0.exponents) e) in
            (λ i. bit_xor (cond (list_all p.is_one t.0.bits) (mul t.1 (one i)) 0) (early_value n p ts at all.1 i))
        | false ↦ λ e.
            let nothing = gone n t.0.exponents p.words (all.0.monomial.words ∙ sym at.words) at.elements e in
            let none : term_value mul (first_point n p) t ≡ 0 =
            ap (λ x. cond (list_all p.is_one t.0.bits) x 0) (ap (mul t.1) nothing ∙ product_by_zero f t.1 all.0.element)
            ∙ elim (list_all p.is_one t.0.bits) as (λ b. ◌≡◌ {A = ℕ} (cond b 0 0) 0) [ true ↦ refl | false ↦ refl ] in
            ap (λ x. bit_xor x (value mul (first_point n p) ts)) none ∙ xor_zero_l (value mul (first_point n p) ts) ∙ early_value n p ts at all.1
      ] refl

  early_filter : (n : ℕ) (ts : Terms) → InFirstWords n (filter (ends_early n) ts)
  early_filter n [] = tt
  early_filter n (t ∷ ts) =
      elim (ends_early n t) as (λ b. ends_early n t ≡ b → InFirstWords n (cond b (t ∷ filter (ends_early n) ts) (filter (ends_early n) ts))) [
        | true ↦ λ e. (zeros_of (drop n t.0.exponents) e, early_filter n ts)
        | false ↦ λ e. early_filter n ts
      ] refl

  pub first_alone : Unique degree mul → (n : ℕ) (ts : Terms) → IsReduced degree ts → ((p : Point) → IsPoint degree p → value mul (first_point n p) ts ≡ value mul p ts) → InFirstWords n ts
  first_alone unique n ts r same =
      let e : filter (ends_early n) ts ≡ ts = unique (filter (ends_early n) ts) ts (filter_reduced (ends_early n) degree ts r) r (λ p at. sym (early_value n p ts at r.terms) ∙ same p at) in
      subst (InFirstWords n) e (early_filter n ts)
