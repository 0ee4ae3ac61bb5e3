-- Lists of numbers that are to be elements of a ring. Source: this project's own.
use Rattle.std.specs.Prelude.{ℕ, ◌<◌, ◌≤◌, ◌^◌, List, length, slice_index, EachIndex}

-- each number is below 2 to the k
abbrev pub AreElements : ℕ → List ℕ → Type 0
AreElements k numbers = EachIndex numbers (λ i. slice_index numbers i < 2 ^ k)

-- the number at this place is the first that is not below 2 to the k
pub record IsFirstOutside (k : ℕ) (numbers : List ℕ) (place : ℕ) : Type 0 where
  pub within : place < length numbers
  pub outside : 2 ^ k ≤ slice_index numbers place
  pub before : (i : ℕ) → i < place → slice_index numbers i < 2 ^ k
