use Rattle.std.proofs.Common.{◌≡◌, not, length, take}
use Rattle.std.specs.List.{filter}
use Rattle.unroll.specs.Gates.{is_held}
use Rattle.unroll.proofs.plan.Plan.started_latches.Given as goal

abbrev pub invariant-loop-latch : goal.invariant-loop-latch
invariant-loop-latch l = l.count ≡ length (filter (λ k. not (is_held l.self.binding k)) (take l.latch-index l.self.net.latches))
