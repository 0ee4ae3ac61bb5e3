use Rattle.net_simplify.proofs.MarkLemmas.{HaveAdded}
use Rattle.net_simplify.proofs.marking.add_all.Given as goal

abbrev pub invariant-loop-net : goal.invariant-loop-net
invariant-loop-net l = HaveAdded l.marks l.fn.marks l.nets l.net-index
