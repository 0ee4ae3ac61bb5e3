use Rattle.std.proofs.Common.{◌≤◌, ◌-◌, length}
use Rattle.poly_mixed.proofs.labels.halved.Given as goal

abbrev pub invariant-loop-low : goal.invariant-loop-low
invariant-loop-low l = l.high ≤ length l.nets

abbrev pub decreases-loop-low : goal.decreases-loop-low
decreases-loop-low l = l.high - l.low
