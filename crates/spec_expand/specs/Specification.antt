-- What a specification says: terms, each a coefficient and powers of words. Source: this project's own.
use Rattle.std.specs.Prelude.{ℕ, ◌<◌, ◌^◌, List}
use Rattle.std.specs.List.{AllByRecursion}
use Rattle.term_expand.specs.Sums.{SumOfProducts}

-- a coefficient, and pairs of a word's number and an exponent
abbrev pub SpecTerms : Type 0
SpecTerms = SumOfProducts

-- the coefficient is an element of a field of 2^k elements, each power is of one of so many words, and exponents are below 2^64
pub record IsTermOver (k words : ℕ) (t : ℕ × List (ℕ × ℕ)) : Type 0 where
  pub element : t.0 < 2 ^ k
  pub powers : AllByRecursion (λ p. (p.0 < words) × (p.1 < 2 ^ 64)) t.1

abbrev pub IsOverWords : ℕ → ℕ → SpecTerms → Type 0
IsOverWords k words spec = AllByRecursion (IsTermOver k words) spec
