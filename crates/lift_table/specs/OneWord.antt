-- Interpolation in one word of a field of 2 to the k elements.
-- Source: Lidl and Niederreiter, Finite Fields, chapter 1, section 3 (interpolation) and chapter 7.
use Rattle.std.specs.Prelude.{ℕ, zero, suc, ◌<◌, ◌-◌, ◌^◌}
use Rattle.gf_field.specs.Polynomial.{sum_of_first}
use Rattle.gf_field.specs.Power.{power}

-- The coefficient of A^e of the function v: that of A^0 is the value at 0, and that of A^e the sum of the products of v x and
-- x to the power 2^k - 1 - e. For A^(2^k - 1) it is the sum of all values.
abbrev pub coefficient_of : ℕ → (ℕ → ℕ → ℕ) → (ℕ → ℕ) → ℕ → ℕ
coefficient_of k mul v zero = v 0
coefficient_of k mul v (suc e) = sum_of_first (2 ^ k) (λ x. mul (v x) (power mul x (2 ^ k - 1 - suc e)))

-- a function of elements, with elements as its values
abbrev pub IsFunction : ℕ → (ℕ → ℕ) → Type 0
IsFunction k v = (x : ℕ) → x < 2 ^ k → v x < 2 ^ k

-- the value at x of the polynomial with the coefficients of v
abbrev pub value_of : ℕ → (ℕ → ℕ → ℕ) → (ℕ → ℕ) → ℕ → ℕ
value_of k mul v x = sum_of_first (2 ^ k) (λ e. mul (coefficient_of k mul v e) (power mul x e))
