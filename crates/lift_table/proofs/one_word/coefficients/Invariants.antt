use Rattle.lift_table.proofs.OneWordLemmas.{AreSoFar}
use Rattle.lift_table.proofs.one_word.coefficients.Given as goal

abbrev pub invariant-loop-step : goal.invariant-loop-step
invariant-loop-step g l = AreSoFar (g.F.Ring.degree l.field) (g.F.Ring.product l.field) l.values l.list.items l.left.items l.step
