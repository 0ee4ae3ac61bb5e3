use Rattle.std.proofs.Common.{ℕ, ◌<◌, get_or}
use Rattle.worked_nets.proofs.graph_core_tests.are_below.Given as goal

abbrev pub invariant-loop-point : goal.invariant-loop-point
invariant-loop-point l = (k : ℕ) → k < l.point-index → (d : ℕ) → get_or l.points k d < l.count
