-- The products of all elements of a field of 2 to the k elements. Source: this project's own.
use Rattle.std.specs.Prelude.{◌≡◌, ℕ, ◌+◌, ◌*◌, ◌<◌, ◌^◌, List, length, slice_index}

-- that of a and b stands at the place b * 2^k + a
pub record AreProducts (k : ℕ) (mul : ℕ → ℕ → ℕ) (products : List ℕ) : Type 0 where
  pub long : length products ≡ 2 ^ (k * 2)
  pub at : (a b : ℕ) → a < 2 ^ k → b < 2 ^ k → slice_index products (b * 2 ^ k + a) ≡ mul a b
