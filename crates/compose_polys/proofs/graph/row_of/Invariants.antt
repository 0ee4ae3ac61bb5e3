use Rattle.std.proofs.Common.{◌≡◌, take}
use Rattle.compose_model.specs.Wiring.{instances_among}
use Rattle.compose_polys.proofs.graph.row_of.Given as goal

abbrev pub invariant-loop-j : goal.invariant-loop-j
invariant-loop-j l = l.row.items ≡ instances_among (take l.j l.feeds)
