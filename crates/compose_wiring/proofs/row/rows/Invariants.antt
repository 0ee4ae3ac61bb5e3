use Rattle.std.proofs.Common.{map}
use Rattle.compose_wiring.proofs.RowLemmas.{AreRowsBefore}
use Rattle.compose_wiring.proofs.row.rows.Given as goal

abbrev pub invariant-loop-instance : goal.invariant-loop-instance
invariant-loop-instance l = AreRowsBefore l.candidates l.placed l.instance (map (λ row. row.items) l.rows.items)
