-- Coefficients packed into one number. Source: this project's own.
use Rattle.std.specs.Prelude.{◌≡◌, ℕ, ◌*◌, ◌≤◌, List, length}
use Rattle.gf_field.specs.Element.{AreElements}
use Rattle.gf_tower.specs.Tower.{polynomial_of}

-- `low` packs the m coefficients, n bits each
pub record IsPackedList (n m low : ℕ) (cs : List ℕ) : Type 0 where
  pub two : 2 ≤ m
  pub small : n * m ≤ 64
  pub size : length cs ≡ m
  pub elements : AreElements n cs
  pub packs : low ≡ polynomial_of n cs
