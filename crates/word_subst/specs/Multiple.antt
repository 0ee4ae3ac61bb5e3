-- Powers of one word times one power of it. Source: Lidl and Niederreiter, Finite Fields, chapter 7.
use Rattle.std.specs.Prelude.{ℕ, map}
use Rattle.poly_mixed.specs.Product.{add_exponent}
use Rattle.word_subst.specs.Univariate.{Powers}

-- each power times this one, in the same order
abbrev pub multiplied : ℕ → (ℕ → ℕ → ℕ) → ℕ × ℕ → Powers → Powers
multiplied k mul by us = map (λ t. (add_exponent k t.0 by.0, mul by.1 t.1)) us
