-- The square of a sum is the sum of the squares.
use Rattle.std.proofs.Common.{◌≡◌, ◌∙◌, ap, ap₂, sym, refl, subst, ℕ, ◌+◌, ◌==◌, true, false, cond, [], ◌∷◌, ◌++◌, take, bit_xor, Some, Result, Ok, Err, IfOk}
use Rattle.std.specs.Prelude.{slice_get}
use Rattle.std.specs.List.{list_all}
use Rattle.std.proofs.lemmas.Bool.{eqb-true, eqb-false}
use Rattle.lists.specs.laws.TakeLaws.{taken_more}
use lib.Bits.{xor_zero_r, xor_assoc, xor_comm}
use Rattle.gf_field.specs.Ring.{IsRing}
use Rattle.gf_field.specs.Field.{HasNoZeroDivisors}
use Rattle.gf_field.specs.laws.RingLaws.{mul_zero, square-xor}
use Rattle.poly_mixed.specs.Monomial.{Monomial}
use Rattle.poly_mixed.specs.Polynomial.{powers, term_value, value, IsPoint, IsPolynomialOf, IsReduced, IsTerm, Point, Terms}
use Rattle.poly_mixed.specs.Sum.{with_coefficient}
use Rattle.poly_mixed.proofs.FieldLaws.{field_of, IsField}
use Rattle.poly_mixed.proofs.ProductLemmas.{one_term}
use Rattle.poly_mixed.proofs.SimpleLemmas.{reduced_nothing}
use Rattle.poly_mixed.proofs.ValueLemmas.{powers_element, product_zero}
use Rattle.term_expand.specs.private.Square.{square_of}

-- two facts of what a call gives
pub both_ok : {X Y : Type 0} (r : Result X Y) (P Q R : X → Type 0) → ((x : X) → P x → Q x → R x) → IfOk r P → IfOk r Q → IfOk r R
both_ok (Ok x) P Q R f p q = f x p q
both_ok (Err e) P Q R f p q = tt

module _ (k : ℕ) (mul : ℕ → ℕ → ℕ) (ring : IsRing k mul) (field : HasNoZeroDivisors k mul) where
  abbrev f : IsField k mul
  f = field_of k mul ring field

  zero_term : (p : Point) → IsPoint k p → (t : Monomial × ℕ) → t.1 ≡ 0 → term_value mul p t ≡ 0
  zero_term p at t none =
      elim (list_all p.is_one t.0.bits) as (λ b. ◌≡◌ {A = ℕ} (cond b (mul t.1 (powers mul t.0.exponents p.words)) 0) 0) [
        | true ↦ ap (λ c. mul c (powers mul t.0.exponents p.words)) none ∙ product_zero f (powers mul t.0.exponents p.words) (powers_element f t.0.exponents p.words at.elements)
        | false ↦ refl
      ]

  -- a term alone is a polynomial
  pub single : (t : Monomial × ℕ) (ts : Terms) → IsTerm k t → ts ≡ with_coefficient t.0 t.1 [] → IsPolynomialOf k mul (λ p. term_value mul p t) ts
  single t ts is e =
      let P : Terms → Type 0 = IsPolynomialOf k mul (λ p. term_value mul p t) in
      subst P (sym e) (elim (t.1 == 0) as (λ b. (t.1 == 0) ≡ b → IsPolynomialOf k mul (λ p. term_value mul p t) (cond b [] ((t.0, t.1) ∷ []))) [
        | true ↦ λ h. record { reduced = reduced_nothing f; values = λ p at. sym (zero_term p at t (eqb-true t.1 0 h)) }
        | false ↦ λ h. record { reduced = one_term f t.0 t.1 is (eqb-false t.1 0 h); values = λ p at. xor_zero_r (term_value mul p t) }
      ] refl)

  -- the product of a polynomial with itself
  pub square_from : (h : Point → ℕ) (ts us : Terms) → IsPolynomialOf k mul h ts → IsReduced k us → ((p : Point) → IsPoint k p → value mul p us ≡ mul (value mul p ts) (value mul p ts)) → IsPolynomialOf k mul (λ p. square_of mul (h p)) us
  square_from h ts us is reduced values = record { reduced = reduced; values = λ p at. values p at ∙ ap (λ v. mul v v) (is.values p at) }

  value_last : (p : Point) (us : Terms) (t : Monomial × ℕ) → value mul p (us ++ t ∷ []) ≡ bit_xor (value mul p us) (term_value mul p t)
  value_last p [] t = xor_comm (term_value mul p t) 0
  value_last p (u ∷ us) t = ap (bit_xor (term_value mul p u)) (value_last p us t) ∙ sym (xor_assoc (term_value mul p u) (value mul p us) (term_value mul p t))

  -- the squares of no terms, of one term more, and of all
  pub squares_none : (ts us : Terms) → us ≡ [] → IsPolynomialOf k mul (λ p. square_of mul (value mul p (take 0 ts))) us
  squares_none ts us e =
      let P : Terms → Type 0 = IsPolynomialOf k mul (λ p. square_of mul (value mul p (take 0 ts))) in
      subst P (sym e) (record { reduced = reduced_nothing f; values = λ p at. sym (mul_zero k mul ring 0) })

  pub squares_more : (ts old part new : Terms) (i : ℕ) (t : Monomial × ℕ) → slice_get ts i ≡ Some t → IsPolynomialOf k mul (λ p. square_of mul (value mul p (take i ts))) old → IsPolynomialOf k mul (λ p. square_of mul (term_value mul p t)) part → IsReduced k new
      → ((p : Point) → IsPoint k p → value mul p new ≡ bit_xor (value mul p old) (value mul p part))
      → IsPolynomialOf k mul (λ p. square_of mul (value mul p (take (i + 1) ts))) new
  squares_more ts old part new i t got a b reduced values = record {
    reduced = reduced;
    values = λ p at.
        values p at
        ∙ ap₂ bit_xor (a.values p at) (b.values p at)
        ∙ sym (square-xor k mul ring (value mul p (take i ts)) (term_value mul p t))
        ∙ ap (square_of mul) (sym (ap (value mul p) (taken_more ts i t got) ∙ value_last p (take i ts) t));
  }
