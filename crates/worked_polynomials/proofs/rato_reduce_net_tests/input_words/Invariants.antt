use Rattle.circuit_model.specs.Flat.{AreOver}
use Rattle.worked_polynomials.proofs.rato_reduce_net_tests.input_words.Given as goal

abbrev pub invariant-loop-i : goal.invariant-loop-i
invariant-loop-i g l = record { over : AreOver (g.F.Ring.degree l.field) (g.F.Ring.product l.field) l.list.items }
