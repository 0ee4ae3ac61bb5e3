use Rattle.std.proofs.Common.{◌-◌}
use Rattle.lift_table.proofs.LiftingLemmas.{HasColumns}
use Rattle.lift_table.proofs.lifting.+add_terms.Given as goal

abbrev pub decreases-add_terms : goal.decreases-add_terms
decreases-add_terms g l = l.words

abbrev pub invariant-loop-e : goal.invariant-loop-e
invariant-loop-e g l = HasColumns (g.F.Ring.degree l.field) (g.F.Ring.product l.field) (l.words - 1) l.exponents l.columns.items l.e l.fn.sum.terms l.sum.terms
