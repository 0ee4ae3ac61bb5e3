-- Towers: polynomials in Y over a field of 2 to the n elements, modulo a monic one of degree m
-- (Lidl and Niederreiter, Finite Fields, chapter 1, section 3).
use Rattle.std.specs.Prelude.{ℕ, ◌+◌, ◌*◌, ◌≤◌, ◌^◌, ◌↔◌, List, [], ◌∷◌, ◌++◌, length}
use Rattle.gf_field.specs.Element.{AreElements}
use Rattle.gf_field.specs.Field.{HasNoZeroDivisors}
use Rattle.gf_field.specs.Polynomial.{IsIrreducible}
use Rattle.gf_field.specs.Quotient.{product}

-- the polynomial with these coefficients, the lowest first, n bits each
abbrev pub polynomial_of : ℕ → List ℕ → ℕ
polynomial_of n [] = 0
polynomial_of n (c ∷ cs) = polynomial_of n cs * 2 ^ n + c

-- the polynomial of a tower: Y to the m plus the sum of c_i * Y to the i
abbrev pub tower_polynomial : ℕ → List ℕ → ℕ
tower_polynomial n cs = polynomial_of n (cs ++ 1 ∷ [])

-- m digits of n bits are a step up and fit a machine word
pub record IsLength (n m : ℕ) : Type 0 where
  pub two : 2 ≤ m
  pub small : n * m ≤ 64

-- what a tower can be made of
pub record IsTowerList (n : ℕ) (cs : List ℕ) : Type 0 where
  pub size : IsLength n (length cs)
  pub elements : AreElements n cs

-- the quotient by the polynomial, of degree m, has no zero divisors exactly where the polynomial is irreducible
abbrev pub IsFieldByPolynomial : (n : ℕ) → (ℕ → ℕ → ℕ) → (m : ℕ) → List ℕ → Type 0
IsFieldByPolynomial n mul m cs =
    HasNoZeroDivisors (n * m) (product n m mul (tower_polynomial n cs)) ↔ IsIrreducible n mul (tower_polynomial n cs)
