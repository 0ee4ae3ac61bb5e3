-- What feeds the words of a sum: a polynomial for each word. Source: this project's own.
use denote.Ref.{Bor}
use Rattle.std.specs.Prelude.{ℕ, List, map}
use Rattle.std.specs.List.{AllByRecursion}
use Rattle.poly_mixed.specs.Polynomial.{value, IsPolynomialOf, IsReduced, Point, Polynomial, Terms}
use Rattle.term_expand.specs.Sums.{SumOfProducts}
use Rattle.term_expand.specs.SumValue.{sum_at}

-- the values of what feeds the words at a point, feeds being polynomials
abbrev pub feed_values : (ℕ → ℕ → ℕ) → List Terms → Point → List ℕ
feed_values mul feeds p = map (value mul p) feeds

-- each feed is a reduced polynomial over the field
abbrev pub AreReduced : ℕ → List Terms → Type 0
AreReduced k feeds = AllByRecursion (IsReduced k) feeds

-- the terms of polynomials that are borrowed
abbrev pub borrowed_terms : List (Bor Polynomial) → List Terms
borrowed_terms polys = map (λ f. f.now.terms) polys

-- the polynomial of the sum at these feeds
abbrev pub IsSumPoly : ℕ → (ℕ → ℕ → ℕ) → List Terms → SumOfProducts → Terms → Type 0
IsSumPoly k mul feeds sum ts = IsPolynomialOf k mul (λ p. sum_at mul (feed_values mul feeds p) sum) ts
