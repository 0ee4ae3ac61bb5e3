use Rattle.std.proofs.Common.{take}
use Rattle.compose_wiring.specs.private.Plain.{ArePlaced}
use Rattle.compose_wiring.proofs.listing.all_placed.Given as goal

abbrev pub invariant-loop-instance : goal.invariant-loop-instance
invariant-loop-instance l = ArePlaced l.blocks l.numbers (take l.instance l.connections) l.list.items
