use Rattle.std.proofs.Common.{◌≡◌, ℕ, ◌<◌, ◌^◌, length, get_or}
use Rattle.std.specs.Prelude.{bit_xor}
use Rattle.irreducible.proofs.proved_rings.has_no_zero_divisors.Given as goal

abbrev pub invariant-loop-i : goal.invariant-loop-i
invariant-loop-i g l = record {
  squares : (j : ℕ) → j < l.i → get_or l.squares j 0 ≡ g.R.Ring.product l.ring (2 ^ j) (2 ^ j);
  moved : (j : ℕ) → j < l.i → get_or l.moved j 0 ≡ bit_xor (g.R.Ring.product l.ring (2 ^ j) (2 ^ j)) (2 ^ j);
  squares_length : length l.squares ≡ 64;
  moved_length : length l.moved ≡ 64;
}
