-- Which pairs of a field and a tower are taken. Source: this project's own.
use Rattle.std.specs.Prelude.{◌≡◌, ℕ, ◌≤◌, ◌*◌}

-- a tower of degree m over a base of n bits, n at most 16, and a field of k bits: m is 2, and both have as many elements
pub record Fits (k n m : ℕ) : Type 0 where
  pub two : m ≡ 2
  pub small : n ≤ 16
  pub double : k ≡ 2 * n
