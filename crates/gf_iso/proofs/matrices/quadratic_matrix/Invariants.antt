use Rattle.std.proofs.Common.{◌≡◌, ℕ, ◌<◌, ◌^◌, length, get_or}
use Rattle.gf_iso.specs.private.Fields.{quadratic}
use Rattle.gf_iso.proofs.matrices.quadratic_matrix.Given as goal

abbrev pub invariant-loop-i : goal.invariant-loop-i
invariant-loop-i g l = record {
  whole : length l.rows ≡ 64;
  words : (j : ℕ) → j < l.i → get_or l.rows j 0 ≡ quadratic (g.F.Ring.product l.field) l.b (2 ^ j);
  short : (j : ℕ) → j < l.i → get_or l.rows j 0 < 2 ^ g.F.Ring.degree l.field;
}
