use Rattle.std.proofs.Common.{◌≡◌, drop}
use Rattle.gf_basis.specs.private.TraceWord.{trace_word}
use Rattle.gf_basis.proofs.duals.traces.Given as goal

abbrev pub invariant-loop-i : goal.invariant-loop-i
invariant-loop-i g l = l.word ≡ trace_word (g.F.Ring.product l.field) (g.F.Ring.degree l.field) (drop l.i l.elements) l.x
