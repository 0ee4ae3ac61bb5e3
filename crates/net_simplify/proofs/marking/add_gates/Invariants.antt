use Rattle.net_simplify.proofs.MarkLemmas.{HaveUses}
use Rattle.net_simplify.proofs.marking.add_gates.Given as goal

abbrev pub invariant-loop-place : goal.invariant-loop-place
invariant-loop-place l = HaveUses l.net l.ends l.order l.marks l.fn.marks l.place
