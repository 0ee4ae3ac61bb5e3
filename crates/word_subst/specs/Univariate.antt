-- Polynomials in one word, as lists of its powers by rising exponent.
-- In a field of 2^k elements exponents are kept below 2^k. Source: Lidl and Niederreiter, Finite Fields, chapter 7.
use Rattle.std.specs.Prelude.{◌≡◌, ◌≢◌, ℕ, ◌<◌, ◌≤◌, ◌+◌, length, List, [], ◌∷◌, bit_xor}
use Rattle.std.specs.List.{AllByRecursion}
use Rattle.gf_field.specs.Power.{power}
use Rattle.poly_mixed.specs.Polynomial.{IsElement}
use Rattle.poly_mixed.specs.Sum.{xor_sum}

-- powers of a word: exponents, each with its coefficient
abbrev pub Powers : Type 0
Powers = List (ℕ × ℕ)

-- an exponent below 2^k, and an element of the field that is not 0
pub record IsPower (k : ℕ) (t : ℕ × ℕ) : Type 0 where
  pub exponent : IsElement k t.0
  pub element : IsElement k t.1
  pub some : t.1 ≢ 0

-- the number is below each exponent
abbrev pub IsBelow : ℕ → Powers → Type 0
IsBelow e us = AllByRecursion (λ t. e < t.0) us

-- each exponent is below those after it
abbrev pub IsRising : Powers → Type 0
IsRising [] = Unit {0}
IsRising (t ∷ us) = IsBelow t.0 us × IsRising us

-- a polynomial in one word: its powers by rising exponent
pub record IsUnivariate (k : ℕ) (us : Powers) : Type 0 where
  pub rising : IsRising us
  pub powers : AllByRecursion (IsPower k) us

module _ (mul : ℕ → ℕ → ℕ) where
  -- a power of the element x times its coefficient
  abbrev pub power_value : ℕ → ℕ × ℕ → ℕ
  power_value x t = mul t.1 (power mul x t.0)

  -- the value at the element x
  abbrev pub value_of : ℕ → Powers → ℕ
  value_of x = xor_sum (power_value x)

module _ (k : ℕ) (mul : ℕ → ℕ → ℕ) where
  -- new has at each element the sum of the values of us and vs, and no more powers than both
  pub record IsSum (us vs new : Powers) : Type 0 where
    pub univariate : IsUnivariate k new
    pub few : length new ≤ length us + length vs
    pub values : (x : ℕ) → IsElement k x → value_of mul x new ≡ bit_xor (value_of mul x us) (value_of mul x vs)

  -- new has at each element the value of us times that of the power
  pub record IsMultiple (by : ℕ × ℕ) (us new : Powers) : Type 0 where
    pub univariate : IsUnivariate k new
    pub values : (x : ℕ) → IsElement k x → value_of mul x new ≡ mul (power_value mul x by) (value_of mul x us)

  -- new has at each element the product of the values of us and vs
  pub record IsProductOfTwo (us vs new : Powers) : Type 0 where
    pub univariate : IsUnivariate k new
    pub values : (x : ℕ) → IsElement k x → value_of mul x new ≡ mul (value_of mul x us) (value_of mul x vs)
