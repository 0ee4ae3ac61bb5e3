use Rattle.stage_model.proofs.WordBitLemmas.{IsPart}
use Rattle.plain_runs.proofs.bit_form.bit_poly.Given as goal

abbrev pub invariant-loop-j : goal.invariant-loop-j
invariant-loop-j g l = IsPart (g.F.Ring.degree l.field) (g.F.Ring.product l.field) l.linear l.word l.j l.sum.terms
