-- What is left of a polynomial, with the product of its cofactor and a table in place of a bit.
use Rattle.std.proofs.Common.{◌≡◌, ℕ, Bool, true, false, cond, [], bit_xor, refl, sym, ◌∙◌, ap}
use lib.Bits.{xor_zero_l, xor_zero_r, xor_assoc, xor_self, xor_comm, xor_lt}
use Rattle.poly_mixed.specs.Polynomial.{Terms, Point, IsPoint, IsReduced, IsElement, value}
use Rattle.poly_mixed.specs.Cofactor.{at_bit, lacking, HasCofactorValues}
use Rattle.poly_mixed.proofs.FieldLaws.{IsField}
use Rattle.poly_mixed.proofs.CofactorLemmas.{value-lacking}
use Rattle.poly_mixed.proofs.ProductLemmas.{value_element}
use Rattle.poly_mixed.proofs.ValueLemmas.{product_zero}

module _ {k : ℕ} {mul : ℕ → ℕ → ℕ} (f : IsField k mul) where
  -- new has the values of old with the bit's place taken by h
  pub put_in : (bit : ℕ) (old part new : Terms) (h : Point → Bool) → IsReduced k old → ((p : Point) → IsPoint k p → value mul p part ≡ bit_xor (value mul (at_bit p bit true) old) (value mul (at_bit p bit false) old))
      → ((p : Point) → IsPoint k p → value mul p new ≡ bit_xor (value mul p (lacking bit old)) (mul (cond (h p) 1 0) (value mul p part)))
      → (p : Point) → IsPoint k p → value mul p new ≡ value mul (at_bit p bit (h p)) old
  put_in bit old part new h reduced cofactor sum p is_point =
      let one = value mul (at_bit p bit true) old in
      let none = value mul (at_bit p bit false) old in
      let at : IsPoint k (at_bit p bit true) = record { words = is_point.words; elements = is_point.elements } in
      let at' : IsPoint k (at_bit p bit false) = record { words = is_point.words; elements = is_point.elements } in
      let e1 : IsElement k one = value_element f (at_bit p bit true) at old reduced.terms in
      let e0 : IsElement k none = value_element f (at_bit p bit false) at' old reduced.terms in
      let e : IsElement k (bit_xor one none) = xor_lt k one none e1 e0 in
      sum p is_point
      ∙ (λ i. bit_xor (value-lacking mul p bit old i) (mul (cond (h p) 1 0) (cofactor p is_point i)))
      ∙ elim (h p) as (λ v. bit_xor none (mul (cond v 1 0) (bit_xor one none)) ≡ value mul (at_bit p bit v) old) [
        | true ↦ ap (bit_xor none) (f.neutral (bit_xor one none) e ∙ xor_comm one none) ∙ sym (xor_assoc none none one) ∙ ap (λ n. bit_xor n one) (xor_self none) ∙ xor_zero_l one
        | false ↦ ap (bit_xor none) (product_zero f (bit_xor one none) e) ∙ xor_zero_r none
      ]

-- where no term has the bit, what is left is the whole, whatever is put in
pub put_nothing : (mul : ℕ → ℕ → ℕ) (bit : ℕ) (old part : Terms) (b : Bool) (p : Point) → part ≡ [] → HasCofactorValues mul bit old part → value mul p (lacking bit old) ≡ value mul (at_bit p bit b) old
put_nothing mul bit old part b p empty cofactor =
    let one = value mul (at_bit p bit true) old in
    let none = value mul (at_bit p bit false) old in
    let zero : bit_xor one none ≡ 0 = sym (cofactor p) ∙ ap (λ ts. value mul p ts) empty in
    let same : none ≡ one = sym (xor_zero_l none) ∙ ap (λ n. bit_xor n none) (sym (xor_self one)) ∙ xor_assoc one one none ∙ ap (bit_xor one) zero ∙ xor_zero_r one in
    value-lacking mul p bit old ∙ elim b as (λ v. none ≡ value mul (at_bit p bit v) old) [
      | true ↦ same
      | false ↦ refl
    ]
