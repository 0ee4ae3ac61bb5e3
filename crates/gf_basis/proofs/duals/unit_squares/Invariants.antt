use Rattle.std.proofs.Common.{◌≡◌, ℕ, ◌<◌, ◌^◌, length, get_or}
use Rattle.gf_basis.proofs.duals.unit_squares.Given as goal

abbrev pub invariant-loop-i : goal.invariant-loop-i
invariant-loop-i g l = record {
  whole : length l.all ≡ 64;
  before : (j : ℕ) → j < l.i → get_or l.all j 0 ≡ g.F.Ring.product l.field (2 ^ j) (2 ^ j);
}
