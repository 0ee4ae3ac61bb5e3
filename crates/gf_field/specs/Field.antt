-- Fields (Lidl and Niederreiter, Finite Fields, chapter 1, section 2). A finite ring without zero divisors is one.
use Rattle.std.specs.Prelude.{◌≢◌, ℕ, ◌<◌, ◌^◌}

-- a product of two elements that are not 0 is not 0
pub record HasNoZeroDivisors (k : ℕ) (mul : ℕ → ℕ → ℕ) : Type 0 where
  pub nonzero : (a b : ℕ) → a < 2 ^ k → b < 2 ^ k → a ≢ 0 → b ≢ 0 → mul a b ≢ 0
