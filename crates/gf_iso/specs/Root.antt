-- Values and roots of polynomials in an extension of the field that they are over
-- (Lidl and Niederreiter, Finite Fields, chapter 1, section 4).
use Rattle.std.specs.Prelude.{◌≡◌, ℕ, ◌<◌, ◌≤◌, ◌^◌}
use Rattle.gf_field.specs.Polynomial.{sum_of_first}
use Rattle.gf_field.specs.Power.{power}

-- the value at y of the polynomial with the m coefficients f 0, f 1, ..: the sum of f i * y ^ i
unfoldable pub value_at : (ℕ → ℕ → ℕ) → ℕ → (ℕ → ℕ) → ℕ → ℕ
value_at mul m f y = sum_of_first m (λ i. mul (f i) (power mul y i))

-- y is the least of the elements, which are the numbers below 2 to the k, at which that polynomial is 0
pub record IsLeastRoot (k : ℕ) (mul : ℕ → ℕ → ℕ) (m : ℕ) (f : ℕ → ℕ) (y : ℕ) : Type 0 where
  pub element : y < 2 ^ k
  pub root : value_at mul m f y ≡ 0
  pub least : (x : ℕ) → x < 2 ^ k → value_at mul m f x ≡ 0 → y ≤ x
