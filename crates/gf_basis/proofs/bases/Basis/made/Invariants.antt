use Rattle.std.proofs.Common.{◌≡◌, ℕ, ◌<◌, ◌^◌, length, get_or}
use Rattle.gf_basis.specs.private.TraceWord.{trace_word}
use Rattle.gf_basis.proofs.bases.Basis.made.Given as goal

abbrev pub invariant-loop-i : goal.invariant-loop-i
invariant-loop-i g l = record {
  whole : length l.duals ≡ 64;
  words : (j : ℕ) → j < l.i → trace_word (g.F.Ring.product l.field) (g.F.Ring.degree l.field) l.elements (get_or l.duals j 0) ≡ 2 ^ j;
  inside : (j : ℕ) → j < l.i → get_or l.duals j 0 < 2 ^ g.F.Ring.degree l.field;
}
