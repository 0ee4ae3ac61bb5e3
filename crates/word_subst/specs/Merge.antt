-- Two polynomials in one word on the way to their sum. Source: this project's own.
use Rattle.std.specs.Prelude.{◌≡◌, ℕ, ◌<◌, ◌≤◌, ◌+◌, length, drop, bit_xor}
use Rattle.std.specs.List.{AllByRecursion}
use Rattle.poly_mixed.specs.Polynomial.{IsElement}
use Rattle.word_subst.specs.Univariate.{Powers, IsBelow, IsUnivariate, value_of}

-- each exponent of ts is below all of us
abbrev pub IsBefore : Powers → Powers → Type 0
IsBefore ts us = AllByRecursion (λ t. IsBelow t.0 us) ts

module _ (k : ℕ) (mul : ℕ → ℕ → ℕ) where
  -- what is left of both stands above the sum, and the values add up to those of the whole
  pub record IsMergeOf (us vs left right sum : Powers) : Type 0 where
    pub left_is : IsUnivariate k left
    pub right_is : IsUnivariate k right
    pub sum_is : IsUnivariate k sum
    pub before_left : IsBefore sum left
    pub before_right : IsBefore sum right
    pub few : length sum + (length left + length right) ≤ length us + length vs
    pub values : (x : ℕ) → IsElement k x → bit_xor (value_of mul x sum) (bit_xor (value_of mul x left) (value_of mul x right)) ≡ bit_xor (value_of mul x us) (value_of mul x vs)

  -- the first i and j powers of both were taken
  pub record IsMerging (us vs : Powers) (i j : ℕ) (sum : Powers) : Type 0 where
    pub left : i ≤ length us
    pub right : j ≤ length vs
    pub merge : IsMergeOf us vs (drop i us) (drop j vs) sum

  -- more of both were taken
  pub record IsMergedTo (us vs : Powers) (i j next_i next_j : ℕ) (sum : Powers) : Type 0 where
    pub merging : IsMerging us vs next_i next_j sum
    pub more : i + j < next_i + next_j
