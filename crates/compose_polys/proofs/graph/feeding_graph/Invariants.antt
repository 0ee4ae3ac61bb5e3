use Rattle.std.proofs.Common.{◌≡◌, ◌++◌, ◌-◌, [], length, map, replicate, take}
use Rattle.compose_model.specs.Wiring.{feeding_graph}
use Rattle.compose_polys.proofs.graph.feeding_graph.Given as goal

abbrev pub invariant-loop-i : goal.invariant-loop-i
invariant-loop-i l = l.graph ≡ feeding_graph (take l.i (map (λ row. row.items) l.rows)) ++ replicate (length l.rows - l.i) []
