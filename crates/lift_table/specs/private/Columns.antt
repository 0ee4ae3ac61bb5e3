-- Lists of the coefficients in one word. Source: this project's own.
use Rattle.std.specs.Prelude.{◌≡◌, ℕ, ◌+◌, ◌*◌, ◌<◌, ◌^◌, List, ◌++◌, length, slice_index}
use Rattle.gf_field.specs.Element.{AreElements}
use Rattle.lift_table.specs.OneWord.{coefficient_of}

-- the coefficients of the function that has these values, by element
pub record AreCoefficients (k : ℕ) (mul : ℕ → ℕ → ℕ) (values coefficients : List ℕ) : Type 0 where
  pub long : length coefficients ≡ 2 ^ k
  pub at : (e : ℕ) → e < 2 ^ k → slice_index coefficients e ≡ coefficient_of k mul (slice_index values) e
  pub elements : AreElements k coefficients

-- new is old and the coefficients of these values behind it
pub record AddsCoefficients (k : ℕ) (mul : ℕ → ℕ → ℕ) (values old new : List ℕ) : Type 0 where
  pub column : List ℕ
  pub are : AreCoefficients k mul values column
  pub is : new ≡ old ++ column

-- for each of n inputs of the other words, the coefficients in the last word
pub record AreColumns (k : ℕ) (mul : ℕ → ℕ → ℕ) (n : ℕ) (table columns : List ℕ) : Type 0 where
  pub long : length columns ≡ n * 2 ^ k
  pub at : (row e : ℕ) → row < n → e < 2 ^ k → slice_index columns (row * 2 ^ k + e) ≡ coefficient_of k mul (λ x. slice_index table (x * n + row)) e
  pub elements : AreElements k columns
