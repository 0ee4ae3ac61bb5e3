use Rattle.std.proofs.Common.{◌≡◌, ◌++◌, take}
use Rattle.compose_wiring.specs.private.Plain.{output_candidates}
use Rattle.compose_wiring.proofs.listing.add_outputs.Given as goal

abbrev pub invariant-loop-instance : goal.invariant-loop-instance
invariant-loop-instance l = l.list.items ≡ l.fn.list.items ++ output_candidates 0 (take l.instance l.placed)
