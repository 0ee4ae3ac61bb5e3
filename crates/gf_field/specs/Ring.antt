-- Rings of characteristic 2 (Lidl and Niederreiter, Finite Fields, chapter 1, section 2).
use Rattle.std.specs.Prelude.{◌≡◌, ℕ, ◌<◌, ◌≤◌, ◌^◌, bit_xor}

-- `mul` is the product of a commutative ring: its elements are the numbers below 2 to the k, its sum is
-- the exclusive or, 0 and 1 are neutral. `mul` is a function of all numbers, so that its laws have no premise.
pub record IsRing (k : ℕ) (mul : ℕ → ℕ → ℕ) : Type 0 where
  pub some : 1 ≤ k
  pub small : k ≤ 64
  pub closed : (a b : ℕ) → mul a b < 2 ^ k
  pub comm : (a b : ℕ) → mul a b ≡ mul b a
  pub assoc : (a b c : ℕ) → mul (mul a b) c ≡ mul a (mul b c)
  pub distrib : (a b c : ℕ) → mul a (bit_xor b c) ≡ bit_xor (mul a b) (mul a c)
  pub one : (a : ℕ) → a < 2 ^ k → mul 1 a ≡ a
