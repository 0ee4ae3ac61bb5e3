-- The linear forms of the bits of a word. Source: Lidl and Niederreiter, Finite Fields, chapter 2 (dual bases and traces).
use Rattle.std.specs.Prelude.{◌≡◌, ℕ, ◌<◌, ◌^◌, List, Some, length, slice_get}
use Rattle.std.specs.Int.{bit_at}
use Rattle.std.specs.List.{AllByRecursion}
use Rattle.gf_basis.specs.Basis.{AreBits}
use Rattle.poly_mixed.specs.Polynomial.{IsElement}
use Rattle.word_subst.specs.Univariate.{Powers, IsUnivariate, value_of}

-- each exponent is 2 to one of the numbers below k
abbrev pub IsLinear : ℕ → Powers → Type 0
IsLinear k us = AllByRecursion (λ t. (j : ℕ) × (j < k) × (t.0 ≡ 2 ^ j)) us

module _ (k : ℕ) (mul : ℕ → ℕ → ℕ) (elements : List ℕ) where
  -- a linear form in the word, whose value at an element is the bit at this place
  pub record IsForm (place : ℕ) (us : Powers) : Type 0 where
    pub univariate : IsUnivariate k us
    pub linear : IsLinear k us
    pub values : (x d : ℕ) → IsElement k x → AreBits elements x d → value_of mul x us ≡ bit_at d place

  -- for each place the form of that bit
  pub record AreForms (forms : List Powers) : Type 0 where
    pub long : length forms ≡ k
    pub each : (place : ℕ) (form : Powers) → slice_get forms place ≡ Some form → IsForm place form
