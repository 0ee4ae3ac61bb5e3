-- Sums of products of words: terms, each a coefficient and powers of words. Source: this project's own.
use Rattle.std.specs.Prelude.{◌≢◌, ℕ, ◌<◌, ◌^◌, List}
use Rattle.std.specs.List.{AllByRecursion}

-- for each term a coefficient, and pairs of a word's number and an exponent
abbrev pub SumOfProducts : Type 0
SumOfProducts = List (ℕ × List (ℕ × ℕ))

-- the coefficient is an element of a field of 2^k elements, exponents are below 2^64, and each that is not 0 is of one of so many words
pub record IsFedTerm (k words : ℕ) (t : ℕ × List (ℕ × ℕ)) : Type 0 where
  pub element : t.0 < 2 ^ k
  pub powers : AllByRecursion (λ p. (p.1 < 2 ^ 64) × (p.1 ≢ 0 → p.0 < words)) t.1

abbrev pub IsFedSum : ℕ → ℕ → SumOfProducts → Type 0
IsFedSum k words sum = AllByRecursion (IsFedTerm k words) sum
