-- Polynomials in one word: different powers below 2^k, as functions on the field, do not add up to 0.
use Rattle.std.proofs.Common.{◌≡◌, ℕ, cond, ◌==◌, List}
use Rattle.std.specs.List.{AllByRecursion}
use Rattle.gf_field.specs.Power.{power}
use Rattle.poly_mixed.specs.Polynomial.{IsElement}
use Rattle.poly_mixed.specs.Sum.{xor_sum}

-- an exponent with a coefficient
abbrev pub IsPower : ℕ → ℕ × ℕ → Type 0
IsPower k t = IsElement k t.0 × IsElement k t.1

abbrev pub power_value : (ℕ → ℕ → ℕ) → ℕ → ℕ × ℕ → ℕ
power_value mul w t = mul t.1 (power mul w t.0)

-- a polynomial in one word that is 0 everywhere has at each exponent coefficients of sum 0
pub record IsIndependent (k : ℕ) (mul : ℕ → ℕ → ℕ) : Type 0 where
  pub apart : (ts : List (ℕ × ℕ)) → AllByRecursion (IsPower k) ts → ((w : ℕ) → IsElement k w → xor_sum (power_value mul w) ts ≡ 0) → (e : ℕ) → xor_sum (λ t. cond (t.0 == e) t.1 0) ts ≡ 0
