-- Sums of values of functions over a ring.
use Rattle.std.proofs.Common.{◌≡◌, ℕ, zero, suc, ◌+◌, sym, ◌∙◌, ap, arith}
use Rattle.std.specs.Prelude.{bit_xor}
use Rattle.std.specs.Int.Bits.{xor_assoc, xor_zero_r}
use Rattle.std.proofs.Math.Nat.{add-zero}
use Rattle.gf_field.specs.Polynomial.{sum_of_first}
use Rattle.irreducible.specs.laws.AdditiveLaws.{IsAdditive, additive_zero}

-- the first m and the n after them
pub sum_split : (m n : ℕ) (f : ℕ → ℕ) → sum_of_first (m + n) f ≡ bit_xor (sum_of_first m f) (sum_of_first n (λ i. f (m + i)))
sum_split m zero f = ap (λ x. sum_of_first x f) (add-zero m) ∙ sym (xor_zero_r (sum_of_first m f))
sum_split m (suc n) f =
    ap (λ x. sum_of_first x f) (moved m n)
    ∙ ap (λ x. bit_xor x (f (m + n))) (sum_split m n f)
    ∙ xor_assoc (sum_of_first m f) (sum_of_first n (λ i. f (m + i))) (f (m + n))
  where
    moved : (m n : ℕ) → m + suc n ≡ suc (m + n)
    moved m n = omega arith

-- the value of an additive function at a sum
pub sum_additive : (h : ℕ → ℕ) → IsAdditive h → (m : ℕ) (f : ℕ → ℕ) → h (sum_of_first m f) ≡ sum_of_first m (λ i. h (f i))
sum_additive h additive zero f = additive_zero h additive
sum_additive h additive (suc m) f = additive.sum (sum_of_first m f) (f m) ∙ ap (λ x. bit_xor x (h (f m))) (sum_additive h additive m f)
