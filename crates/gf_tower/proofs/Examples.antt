-- Small worked examples of the definitions of specs/, which the check computes. The field of four elements is that of
-- the modulus 7, and over it Y^2 + Y + 2 makes the field of sixteen elements, in which 4 stands for Y.
use Rattle.std.proofs.Common.{◌≡◌, ℕ, zero, suc, ◌<◌, [], ◌∷◌, slice_index, refl, arith}
use Rattle.gf_field.specs.Bit.{bit_mul}
use Rattle.gf_field.specs.Quotient.{product}
use Rattle.gf_field.specs.Power.{power}
use Rattle.gf_tower.specs.Tower.{tower_polynomial, IsTowerList}
use Rattle.gf_tower.specs.TowerFault.{IsTowerFault}
use Rattle.gf_tower.specs.declared.towers.TowerFault.TheVariants.{BadLength, BadCoefficient}

abbrev four : ℕ → ℕ → ℕ
four = product 1 2 bit_mul 7

abbrev sixteen : ℕ → ℕ → ℕ
sixteen = product 2 2 four (tower_polynomial 2 (2 ∷ 1 ∷ []))

-- Y^2 + Y + 2 is the number 1 * 16 + 1 * 4 + 2 = 22
polynomial_of_tower : tower_polynomial 2 (2 ∷ 1 ∷ []) ≡ 22
polynomial_of_tower = refl

-- Y * Y is Y + 2, which is 6
square_of_Y : sixteen 4 4 ≡ 6
unfolding product
square_of_Y = refl

-- Y * (Y + 1) is 2
product_in_tower : sixteen 4 5 ≡ 2
unfolding product
product_in_tower = refl

-- 2 * (2 * Y + 1), where 2 is of the field below, is 3 * Y + 2
product_from_below : sixteen 2 9 ≡ 14
unfolding product
product_from_below = refl

-- Y^5 is 2
fifth_power_of_Y : power sixteen 4 5 ≡ 2
unfolding product power
fifth_power_of_Y = refl

-- 2 and 1 are the coefficients of a tower
is_tower_list : IsTowerList 2 (2 ∷ 1 ∷ [])
is_tower_list = record { size = record { two = omega arith; small = omega arith }; elements = elements }
  where
    elements : (i : ℕ) → i < 2 → slice_index (2 ∷ 1 ∷ []) i < 4
    elements zero h = omega arith
    elements (suc zero) h = omega arith
    elements (suc (suc i)) h = absurd (omega arith)

-- one coefficient is too few
one_is_too_few : IsTowerFault 2 (2 ∷ []) BadLength
one_is_too_few = λ length. omega (arith, length.two)

-- of 2 and 4, the one at place 1 is no element of the field of four
four_is_no_element : IsTowerFault 2 (2 ∷ 4 ∷ []) (BadCoefficient 1)
four_is_no_element = (record { two = omega arith; small = omega arith }, record { within = omega arith; outside = omega arith; before = before })
  where
    before : (i : ℕ) → i < 1 → slice_index (2 ∷ 4 ∷ []) i < 4
    before zero h = omega arith
    before (suc i) h = absurd (omega arith)
