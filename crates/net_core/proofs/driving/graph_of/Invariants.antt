use Rattle.net_core.proofs.DrivingLemmas.{HasGates}
use Rattle.net_core.proofs.driving.graph_of.Given as goal

abbrev pub invariant-loop-gate : goal.invariant-loop-gate
invariant-loop-gate l = HasGates l.net l.gate-index l.graph
