use Rattle.std.proofs.Common.{◌≡◌, ℕ, ◌<◌, Some}
use Rattle.std.specs.Prelude.{slice_get}
use Rattle.graph_core.specs.Walking.{IsDone}
use Rattle.graph_core.proofs.walk.are_done.Given as goal

-- the points so far are done
abbrev pub invariant-loop-point : goal.invariant-loop-point
invariant-loop-point l = (k to : ℕ) → k < l.point-index → slice_get l.points k ≡ Some to → IsDone l.marks to
