-- The parts of a product in a tower that its steps make, digit by digit. Source: Horner's rule, over digits of n bits.
use Rattle.std.specs.Prelude.{ℕ, pred, ◌+◌, ◌*◌, ◌-◌, ◌/◌, ◌<◌, ◌≤◌, ◌^◌}
use Rattle.gf_field.specs.Polynomial.{coefficient}
use Rattle.gf_field.specs.Quotient.{times, step, reduced, packed}

-- the polynomial of degree m whose lower coefficients are the digits of `low`, and which is monic
abbrev pub modulus_of : ℕ → ℕ → ℕ → ℕ
modulus_of n m low = 1 * 2 ^ (n * m) + low

-- m digits of n bits
pub record IsPacked (n m low : ℕ) : Type 0 where
  pub two : 2 ≤ m
  pub small : n * m ≤ 64
  pub below : low < 2 ^ (n * m)

-- a times each digit of v
unfoldable pub scaled : (n : ℕ) → (ℕ → ℕ → ℕ) → (m a v : ℕ) → ℕ
scaled n mul m a v = packed n m (times mul a (coefficient n v))

-- the digits from i on, each times a
unfoldable pub scaled_from : (n : ℕ) → (ℕ → ℕ → ℕ) → (m a v i : ℕ) → ℕ
scaled_from n mul m a v i = packed n (m - i) (times mul a (coefficient n (v / 2 ^ (n * i))))

-- Y times a, modulo g
unfoldable pub times_y : (n : ℕ) → (ℕ → ℕ → ℕ) → (m g a : ℕ) → ℕ
times_y n mul m g a = packed n m (step mul (pred m) (coefficient n g) (coefficient n a))

-- the part of a product that the digits of a from i on make
unfoldable pub from_digit : (n : ℕ) → (ℕ → ℕ → ℕ) → (m g a b i : ℕ) → ℕ
from_digit n mul m g a b i = packed n m (reduced mul (pred m) (coefficient n g) (m - i) (coefficient n (a / 2 ^ (n * i))) (coefficient n b))
