-- What an elimination keeps: for each place at most one number whose highest bit stands there.
-- Source: Gaussian elimination over the field of two elements.
use Rattle.std.specs.Int.{bit_at}
use Rattle.std.specs.Prelude.{bit_xor, ◌≡◌, ℕ, suc, ◌≤◌, ◌<◌, ◌^◌, ◌⊎◌, List, length, slice_index}
use Rattle.irreducible.specs.Span.{combination, InSpan, IsIndependent}

-- t is the place of the highest bit of w
pub record IsTop (t w : ℕ) : Type 0 where
  pub low : 2 ^ t ≤ w
  pub high : w < 2 ^ suc t

-- at each place a number with this highest bit, or 0
abbrev pub ByTop : List ℕ → Type 0
ByTop pivots = (t : ℕ) → (slice_index pivots t ≡ 0) ⊎ IsTop t (slice_index pivots t)

-- `left` is the row without the sum of the pivots that `used` chooses, and has a 0 at each pivot's place from i on
pub record IsCleared (pivots : List ℕ) (row left used i : ℕ) : Type 0 where
  pub within : combination pivots used ≡ bit_xor row left
  pub cleared : (t : ℕ) → i ≤ t → IsTop t (slice_index pivots t) → bit_at left t ≡ 0

-- the pivots after the first i rows, which have rank r: independent sums of the rows that span these
pub record IsRankSoFar (rows pivots : List ℕ) (i r : ℕ) : Type 0 where
  pub basis : List ℕ
  pub count : length basis ≡ r
  pub independent : IsIndependent basis
  pub inside : (c : ℕ) → InSpan rows (combination basis c)
  pub spans : (j : ℕ) → j < i → InSpan basis (slice_index rows j)
  pub pivots_in : (t : ℕ) → InSpan basis (slice_index pivots t)
  pub tops : ByTop pivots
  pub complete : (w t : ℕ) → InSpan basis w → IsTop t w → IsTop t (slice_index pivots t)

-- each pivot is the sum of the rows that its choice names
pub record AreChoices (rows pivots choices : List ℕ) : Type 0 where
  pub makes : (t : ℕ) → combination rows (slice_index choices t) ≡ slice_index pivots t
  pub below : (t : ℕ) → slice_index choices t < 2 ^ length rows

-- the vectors after the first i rows: at each place a choice of rows with the sum 0 whose highest bit stands there, or 0,
-- and one wherever there is such a choice among these rows
pub record IsKernelSoFar (rows vectors : List ℕ) (i : ℕ) : Type 0 where
  pub zero_sum : (t : ℕ) → combination rows (slice_index vectors t) ≡ 0
  pub tops : ByTop vectors
  pub later : (t : ℕ) → i ≤ t → slice_index vectors t ≡ 0
  pub complete : (v t : ℕ) → t < i → combination rows v ≡ 0 → IsTop t v → IsTop t (slice_index vectors t)
