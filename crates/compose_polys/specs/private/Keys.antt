-- What is sorted. Source: this project's own.
use Rattle.std.specs.Prelude.{◌≡◌, ℕ, List, Some, length, slice_get}

-- the level and the number of each point
pub record AreKeys (levels : List ℕ) (keys : List (ℕ × ℕ)) : Type 0 where
  pub long : length keys ≡ length levels
  pub each : (a l : ℕ) → slice_get levels a ≡ Some l → slice_get keys a ≡ Some (l, a)
