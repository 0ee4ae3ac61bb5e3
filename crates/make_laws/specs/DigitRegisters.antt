-- Registers that multiply digit by digit, the highest digit first. Source: L. Song and K. K. Parhi, Low-energy digit-serial/
-- parallel finite field multipliers, Journal of VLSI Signal Processing 19 (1998).
use Rattle.std.specs.Prelude.{◌≡◌, ℕ, suc, ◌+◌, ◌-◌, ◌*◌, ◌<◌, ◌≤◌, ◌^◌, ◌&&◌, Bool, false, bit_xor}
use Rattle.std.specs.Int.{bit_at}
use Rattle.gf_field.specs.Polynomial.{sum_of_first}
use Rattle.gf_field.specs.Power.{power}
use Rattle.make_laws.specs.Chosen.{chosen, sum_of_chosen}

-- the first k powers of x are the numbers 2 to the i
abbrev pub HasUnitPowers : ℕ → (ℕ → ℕ → ℕ) → ℕ → Type 0
HasUnitPowers k mul x = (i : ℕ) → i < k → power mul x i ≡ 2 ^ i

-- the element of so many bits in the basis of the powers of x
abbrev pub power_element : (ℕ → ℕ → ℕ) → ℕ → ℕ → (ℕ → Bool) → ℕ
power_element mul x n a = sum_of_chosen n a (power mul x)

-- the element of the t highest digits of a, of D bits each
abbrev pub highest_digits : ℕ → (ℕ → ℕ → ℕ) → (x width : ℕ) → (ℕ → Bool) → ℕ → ℕ
highest_digits k mul x width a t = power_element mul x (width * t) (λ i. a (k - width * t + i))

-- The sum of the bits i of z for which bit l of x^(i + D) is 1, and of the products of bit e of the digit and bit j of b for
-- which bit l of x^(e + j) is 1; D is the width of a digit.
abbrev pub digit_step_sum : ℕ → (ℕ → ℕ → ℕ) → ℕ → ℕ → (ℕ → Bool) → (ℕ → Bool) → (ℕ → Bool) → ℕ → ℕ
digit_step_sum k mul x width z d b l =
    bit_xor (sum_of_first k (λ i. chosen (z i) (bit_at (power mul x (i + width)) l)))
    (sum_of_first width (λ e. sum_of_first k (λ j. chosen (d e && b j) (bit_at (power mul x (e + j)) l))))

-- z starts with zeros; in each of `count` cycles the next digit of a is fed, the highest first, and z takes those sums
pub record AreDigitRegisters (k : ℕ) (mul : ℕ → ℕ → ℕ) (x width count : ℕ) (a b : ℕ → Bool) (z d : ℕ → ℕ → Bool) : Type 0 where
  pub starts : (l : ℕ) → l < k → z 0 l ≡ false
  pub fed : (t e : ℕ) → t < count → e < width → d t e ≡ a (k - width * suc t + e)
  pub steps : (t l : ℕ) → t < count → l < k → chosen (z (suc t) l) 1 ≡ digit_step_sum k mul x width (z t) (d t) b l

-- after k / D cycles z is a times b
abbrev pub HoldDigitProducts : ℕ → (ℕ → ℕ → ℕ) → Type 0
HoldDigitProducts k mul =
    (x width count : ℕ) (a b : ℕ → Bool) (z d : ℕ → ℕ → Bool)
    → HasUnitPowers k mul x → k ≡ width * count → AreDigitRegisters k mul x width count a b z d
    → power_element mul x k (z count) ≡ mul (power_element mul x k a) (power_element mul x k b)

-- after t cycles z is what was fed so far, the t highest digits of a, times b
abbrev pub HoldDigitSums : ℕ → (ℕ → ℕ → ℕ) → Type 0
HoldDigitSums k mul =
    (x width count t : ℕ) (a b : ℕ → Bool) (z d : ℕ → ℕ → Bool)
    → HasUnitPowers k mul x → k ≡ width * count → t ≤ count → AreDigitRegisters k mul x width count a b z d
    → power_element mul x k (z t) ≡ mul (highest_digits k mul x width a t) (power_element mul x k b)
