-- Squares. Source: Lidl and Niederreiter, Finite Fields, chapter 1.
use Rattle.std.specs.Prelude.{ℕ}
use Rattle.poly_mixed.specs.Polynomial.{IsPolynomialOf, Point, Terms}

-- an element times itself
abbrev pub square_of : (ℕ → ℕ → ℕ) → ℕ → ℕ
square_of mul a = mul a a

-- a polynomial of the square of a function
abbrev pub IsSquareOf : ℕ → (ℕ → ℕ → ℕ) → (Point → ℕ) → Terms → Type 0
IsSquareOf k mul h ts = IsPolynomialOf k mul (λ p. square_of mul (h p)) ts
