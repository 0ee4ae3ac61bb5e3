-- Which tables are small enough to be written out. Source: this project's own.
use Rattle.std.specs.Prelude.{ℕ, ◌≤◌, ◌*◌}

-- elements of at most 8 bits, and at most 2 to the 16 inputs
pub record IsSmall (k words : ℕ) : Type 0 where
  pub bits : k ≤ 8
  pub rows : k * words ≤ 16
