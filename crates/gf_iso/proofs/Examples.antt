-- Small worked examples of the definitions of specs/, which the check computes. The field of sixteen elements is that of
-- the modulus 19, which is x^4 + x + 1; the tower is that of Y^2 + Y + 2 over the field of the modulus 7.
use Rattle.std.proofs.Common.{◌≡◌, ℕ, zero, suc, ◌+◌, ◌<◌, [], ◌∷◌, refl, arith}
use Rattle.gf_field.specs.Bit.{bit_mul}
use Rattle.gf_field.specs.laws.BitLaws.{IsRing-bit_mul}
use Rattle.gf_field.specs.laws.PackingLaws.{coefficient_ends}
use Rattle.gf_field.specs.laws.ProductLaws.{IsProduct_same, IsProductModulo-reduced}
use Rattle.gf_field.specs.laws.QuotientLaws.{EndsAt}
use Rattle.gf_field.specs.Polynomial.{coefficient, IsMonic, IsProductModulo}
use Rattle.gf_field.specs.Power.{power}
use Rattle.gf_field.specs.Quotient.{product}
use Rattle.gf_tower.specs.FieldName.{tower_product}
use Rattle.irreducible.specs.Span.{combination}
use Rattle.gf_iso.specs.Root.{value_at}
use Rattle.gf_iso.specs.Fits.{Fits}

abbrev sixteen : ℕ → ℕ → ℕ
sixteen = product 1 4 bit_mul 19

-- the images of 1, x, Y and x * Y
abbrev there : ℕ → ℕ
there = combination (1 ∷ 6 ∷ 2 ∷ 12 ∷ [])

-- both have sixteen elements
they_fit : Fits 4 2 2
they_fit = record { two = refl; small = omega arith; double = refl }

-- 6 and 7 are the roots of x^2 + x + 1
six_is_root : value_at sixteen 3 (coefficient 1 7) 6 ≡ 0
unfolding value_at product power
six_is_root = refl

seven_is_root : value_at sixteen 3 (coefficient 1 7) 7 ≡ 0
unfolding value_at product power
seven_is_root = refl

-- 2 is a root of Y^2 + Y + 6, which is the tower's polynomial with its coefficients carried over; 1 is none
two_is_root : value_at sixteen 3 (λ i. there (coefficient 2 22 i)) 2 ≡ 0
unfolding value_at product power
two_is_root = refl

one_is_none : value_at sixteen 3 (λ i. there (coefficient 2 22 i)) 1 ≡ 6
unfolding value_at product power
one_is_none = refl

-- Y * Y is Y + x, and goes to 2 * 2, which is 4
square_is_kept : there (tower_product 2 7 (2 ∷ 1 ∷ []) 4 4) ≡ sixteen (there 4) (there 4)
unfolding product
square_is_kept = refl

-- x * Y goes to 6 * 2, which is 12
product_is_kept : there (tower_product 2 7 (2 ∷ 1 ∷ []) 2 4) ≡ sixteen (there 2) (there 4)
unfolding product
product_is_kept = refl

two_ends : EndsAt 2 (coefficient 1 2)
two_ends = coefficient_ends 1 2 2 (omega arith)

monic_of_degree_one : (c : ℕ) → c < 2 → IsMonic 1 1 (2 + c)
monic_of_degree_one c h = record { leading = top c h; last = coefficient_ends 1 2 (2 + c) (omega arith) }
  where
    top : (c : ℕ) → c < 2 → coefficient 1 (2 + c) 1 ≡ 1
    top zero h = refl
    top (suc zero) h = refl
    top (suc (suc c)) h = absurd (omega arith)

-- over 0 and 1 alone the remainder of x by x is 0
x_by_x : (w : ℕ) → IsProductModulo 1 1 bit_mul 2 2 1 w → w ≡ 0
x_by_x w p = IsProduct_same 1 bit_mul IsRing-bit_mul 0 2 (monic_of_degree_one 0 (omega arith)) 2 1 w 0 p (IsProductModulo-reduced 1 bit_mul IsRing-bit_mul 0 2 (monic_of_degree_one 0 (omega arith)) 2 2 1 two_ends (omega arith))

-- and that by x + 1 is 1
x_by_x_plus_one : (w : ℕ) → IsProductModulo 1 1 bit_mul 3 2 1 w → w ≡ 1
x_by_x_plus_one w p = IsProduct_same 1 bit_mul IsRing-bit_mul 0 3 (monic_of_degree_one 1 (omega arith)) 2 1 w 1 p (IsProductModulo-reduced 1 bit_mul IsRing-bit_mul 0 3 (monic_of_degree_one 1 (omega arith)) 2 2 1 two_ends (omega arith))
