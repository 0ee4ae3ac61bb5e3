use Rattle.std.proofs.Common.{◌≡◌, ℕ, ◌<◌, ◌^◌, length, get_or}
use Rattle.gf_iso.specs.private.Fields.{fixed}
use Rattle.gf_iso.proofs.matrices.fixed_matrix.Given as goal

abbrev pub invariant-loop-i : goal.invariant-loop-i
invariant-loop-i g l = record {
  whole : length l.rows ≡ 64;
  words : (j : ℕ) → j < l.i → get_or l.rows j 0 ≡ fixed (g.F.Ring.product l.field) l.n (2 ^ j);
  short : (j : ℕ) → j < l.i → get_or l.rows j 0 < 2 ^ g.F.Ring.degree l.field;
}
