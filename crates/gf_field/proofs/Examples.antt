-- Small worked examples of the definitions of specs/, which the check computes. The field of four elements is that of
-- the modulus x^2 + x + 1, which is 7 as a number; in it 2 stands for x.
use Rattle.std.proofs.Common.{◌≡◌, ℕ, zero, suc, ◌<◌, [], ◌∷◌, slice_index, refl, arith}
use Rattle.gf_field.specs.Bit.{bit_mul}
use Rattle.gf_field.specs.Element.{IsFirstOutside}
use Rattle.gf_field.specs.Modulus.{IsModulus, HasModulusDegree}
use Rattle.gf_field.specs.laws.ModulusLaws.{IsModulus-from_bounds, no_small_modulus}
use Rattle.gf_field.specs.Polynomial.{coefficient, convolution}
use Rattle.gf_field.specs.Quotient.{product}
use Rattle.gf_field.specs.Power.{power}
use Rattle.gf_field.specs.Trace.{frobenius, trace}
use Rattle.gf_field.specs.Roots.{value, AreRoots}

abbrev four : ℕ → ℕ → ℕ
four = product 1 2 bit_mul 7

-- coefficient 2 of x^3 + x^2 + 1, which is 13, is 1
coefficient_of_13 : coefficient 1 13 2 ≡ 1
coefficient_of_13 = refl

-- with two bits to a coefficient, 13 is 3 * x + 1
coefficient_by_two : coefficient 2 13 1 ≡ 3
coefficient_by_two = refl

-- the square of x + 1 has the coefficient 0 at x
square_of_3 : convolution bit_mul (coefficient 1 3) (coefficient 1 3) 1 ≡ 0
square_of_3 = refl

-- 7 is a modulus of degree 2
modulus_of_degree_two : IsModulus 2 7
modulus_of_degree_two = IsModulus-from_bounds 2 7 (omega arith) (omega arith) (omega arith) (omega arith)

-- 1 is no modulus, for its degree is 0
one_is_no_modulus : HasModulusDegree 1 → ⊥
one_is_no_modulus degree = no_small_modulus 1 (omega arith) degree

-- of 2, 4 and 9, the number at place 1 is the first that is no element of the field of four
first_outside : IsFirstOutside 2 (2 ∷ 4 ∷ 9 ∷ []) 1
first_outside = record { within = omega arith; outside = omega arith; before = before }
  where
    before : (i : ℕ) → i < 1 → slice_index (2 ∷ 4 ∷ 9 ∷ []) i < 4
    before zero h = omega arith
    before (suc i) h = absurd (omega arith)

-- in the field of four elements 2 * 2 is 3
two_times_two : four 2 2 ≡ 3
unfolding product
two_times_two = refl

-- 2 * 3 is 1
two_times_three : four 2 3 ≡ 1
unfolding product
two_times_three = refl

-- the third power of 2 is 1
cube_of_two : power four 2 3 ≡ 1
unfolding product power
cube_of_two = refl

-- 2 squared twice is 2 again, which is 3 squared
squares_of_two : frobenius four 2 2 ≡ 2
unfolding product frobenius
squares_of_two = refl

-- the trace of 2 is 2 + 3, which is 1
trace_of_two : trace four 2 2 ≡ 1
unfolding product frobenius trace
trace_of_two = refl

-- the trace of 1 is 1 + 1, which is 0
trace_of_one : trace four 2 1 ≡ 0
unfolding product frobenius trace
trace_of_one = refl

-- the polynomial 1 + x + x^2 has the value 0 at 2
value_at_two : value four (1 ∷ 1 ∷ 1 ∷ []) 2 ≡ 0
unfolding product
value_at_two = refl

-- 2 and 3 are roots of 1 + x + x^2 in the field of four elements
roots : AreRoots four 2 (1 ∷ 1 ∷ 1 ∷ []) (2 ∷ 3 ∷ [])
unfolding product
roots = (omega arith, refl, (λ e. absurd (omega arith), tt), (omega arith, refl, tt, tt))

-- in the field of 256 elements of AES, 0x57 * 0x83 is 0xc1
product_of_aes : product 1 8 bit_mul 283 87 131 ≡ 193
unfolding product
product_of_aes = refl
