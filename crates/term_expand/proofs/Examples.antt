-- Worked examples that the check computes.
use Rattle.std.proofs.Common.{◌≡◌, ◌∷◌, [], refl}
use Rattle.gf_field.specs.Bit.{bit_mul}
use Rattle.gf_field.specs.Power.{power}
use Rattle.term_expand.specs.SumValue.{factors_of, ones_of, sum_at}

-- 13 = 1 + 4 + 8
ones_of_13 : ones_of 64 0 13 ≡ 0 ∷ 2 ∷ 3 ∷ []
ones_of_13 = refl

-- A^3*B*A^0 has the factors A, A^2 and B; the exponent 0 gives none
factors_of_a_product : factors_of ((0, 3) ∷ (1, 1) ∷ (0, 0) ∷ []) ≡ (0, 1) ∷ (0, 2) ∷ (1, 1) ∷ []
factors_of_a_product = refl

-- over the field of 0 and 1, A*B + 0x1 is 0 at A = B = 1
value_at_ones : sum_at bit_mul (1 ∷ 1 ∷ []) ((1, (0, 1) ∷ (1, 1) ∷ []) ∷ (1, []) ∷ []) ≡ 0
unfolding power
value_at_ones = refl
