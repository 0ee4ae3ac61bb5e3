use Rattle.std.proofs.Common.{◌≡◌, ℕ, ◌<◌, ◌^◌, length, get_or}
use Rattle.gf_basis.specs.private.TraceWord.{trace_word}
use Rattle.gf_basis.proofs.duals.trace_matrix.Given as goal

abbrev pub invariant-loop-i : goal.invariant-loop-i
invariant-loop-i g l = record {
  whole : length l.rows ≡ 64;
  words : (j : ℕ) → j < l.i → get_or l.rows j 0 ≡ trace_word (g.F.Ring.product l.field) (g.F.Ring.degree l.field) l.elements (get_or l.elements j 0);
  short : (j : ℕ) → j < l.i → get_or l.rows j 0 < 2 ^ length l.elements;
}
