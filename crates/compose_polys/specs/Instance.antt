-- A block's polynomial at what feeds an instance of the block. Source: Pruss, Kalla, Enescu, DAC 2014.
use Rattle.std.specs.Prelude.{ℕ, ◌+◌, ◌-◌, List, [], ◌∷◌, ◌++◌, length, map, replicate}
use Rattle.poly_mixed.specs.Monomial.{Monomial}
use Rattle.poly_mixed.specs.Polynomial.{point, value, IsPolynomialOf, Point, Terms}
use Rattle.term_expand.specs.Sums.{SumOfProducts}
pub use Rattle.term_expand.specs.Feeds.{feed_values, AreReduced}

-- each word with its exponent, words being numbered from n
abbrev pub powers_from : ℕ → List ℕ → List (ℕ × ℕ)
powers_from n [] = []
powers_from n (e ∷ es) = (n, e) ∷ powers_from (n + 1) es

-- a term of a block's polynomial in words: its coefficient, and the powers of the block's words
abbrev pub block_term : Monomial × ℕ → ℕ × List (ℕ × ℕ)
block_term t = (t.1, powers_from 0 t.0.exponents)

-- the terms of a block's polynomial, in the order of a text
abbrev pub block_terms : Terms → SumOfProducts
block_terms ts = map block_term ts

-- the point of a block's words: these elements, 0 for the words that the block does not have, and no bit
abbrev pub point_of : List ℕ → Point
point_of xs = point (xs ++ replicate (8 - length xs) 0) []

-- a polynomial of the values that another one has
abbrev pub HasValuesOf : ℕ → (ℕ → ℕ → ℕ) → Terms → Terms → Type 0
HasValuesOf k mul other ts = IsPolynomialOf k mul (λ p. value mul p other) ts

-- the polynomial of a block's at these feeds
abbrev pub IsInstancePoly : ℕ → (ℕ → ℕ → ℕ) → List Terms → Terms → Terms → Type 0
IsInstancePoly k mul feeds block ts = IsPolynomialOf k mul (λ p. value mul (point_of (feed_values mul feeds p)) block) ts
