use Rattle.std.proofs.Common.{◌≡◌, ℕ, ◌<◌, ◌^◌, length, get_or}
use Rattle.gf_basis.proofs.bases.Basis.poly.Given as goal

abbrev pub invariant-loop-i : goal.invariant-loop-i
invariant-loop-i g l = record {
  whole : length l.units ≡ 64;
  before : (j : ℕ) → j < l.i → get_or l.units j 0 ≡ 2 ^ j;
}
