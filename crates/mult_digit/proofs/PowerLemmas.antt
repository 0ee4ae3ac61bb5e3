-- Powers one after another.
use Rattle.std.proofs.Common.{◌≡◌, ℕ, zero, suc, ◌<◌, ◌≤◌, ◌^◌, pow-suc, arith}
use Rattle.std.proofs.lemmas.Nat.{pow_pos}

pub one_below : (k one : ℕ) → one ≡ 1 → 1 ≤ k → one < 2 ^ k
one_below zero one is some = absurd (omega arith)
one_below (suc k) one is some = omega (arith, is, pow-suc 2 k, pow_pos k)
