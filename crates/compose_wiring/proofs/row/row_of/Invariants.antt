use Rattle.compose_wiring.specs.private.Plain.{AreFedBefore}
use Rattle.compose_wiring.proofs.row.row_of.Given as goal

abbrev pub invariant-loop-word : goal.invariant-loop-word
invariant-loop-word l = AreFedBefore l.candidates l.placed l.word l.row.items
