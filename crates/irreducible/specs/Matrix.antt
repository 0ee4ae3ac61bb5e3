-- Square matrices over 0 and 1: a matrix is the list of its n rows, each a number of n bits, and takes the word v to
-- the sum of the rows i with bit i of v set.
-- Source: matrices over the field of two elements, as in any book on linear algebra.
use Rattle.std.specs.Int.{bit_at}
use Rattle.std.specs.Prelude.{◌≡◌, ◌≢◌, ℕ, ◌<◌, ◌≤◌, ◌^◌, List, length, slice_index, EachIndex}
use Rattle.irreducible.specs.Span.{combination, InSpan}

-- each row is below 2 to the number of rows
abbrev pub IsSquare : List ℕ → Type 0
IsSquare rows = EachIndex rows (λ i. slice_index rows i < 2 ^ length rows)

-- two matrices of one size undo each other, in both orders
pub record AreInverse (a b : List ℕ) : Type 0 where
  pub size : length b ≡ length a
  pub square : IsSquare b
  pub after : (v : ℕ) → v < 2 ^ length a → combination a (combination b v) ≡ v
  pub before : (v : ℕ) → v < 2 ^ length a → combination b (combination a v) ≡ v

-- words that the matrix takes to 0: those that are not 0 are independent, and each word that goes to 0 is a sum of them
pub record IsKernel (rows vectors : List ℕ) : Type 0 where
  pub words : (i : ℕ) → slice_index vectors i < 2 ^ length rows
  pub inside : (i : ℕ) → combination rows (slice_index vectors i) ≡ 0
  pub independent : (c i : ℕ) → combination vectors c ≡ 0 → slice_index vectors i ≢ 0 → bit_at c i ≡ 0
  pub spans : (v : ℕ) → v < 2 ^ length rows → combination rows v ≡ 0 → InSpan vectors v

-- v is the least word that the matrix takes to w
pub record IsLeastSolution (rows : List ℕ) (w v : ℕ) : Type 0 where
  pub word : v < 2 ^ length rows
  pub solves : combination rows v ≡ w
  pub least : (u : ℕ) → u < 2 ^ length rows → combination rows u ≡ w → v ≤ u
