use Rattle.std.proofs.Common.{◌≡◌, ℕ, ◌<◌, ◌^◌, length, get_or}
use Rattle.gf_basis.specs.Basis.{AreBits}
use Rattle.gf_basis.proofs.duals.coordinates.Given as goal

abbrev pub invariant-loop-i : goal.invariant-loop-i
invariant-loop-i l = record {
  whole : length l.all ≡ 64;
  before : (j : ℕ) → j < l.i → AreBits l.elements (2 ^ j) (get_or l.all j 0);
}
