use Rattle.std.proofs.Common.{◌≡◌, map, take}
use Rattle.std.specs.List.{filter}
use Rattle.unroll.specs.Gates.{is_held}
use Rattle.unroll.specs.private.Plan.{with_inputs}
use Rattle.unroll.proofs.plan.Plan.add_states.Given as goal

abbrev pub invariant-loop-latch : goal.invariant-loop-latch
invariant-loop-latch l = l.maker ≡ with_inputs l.fn.maker (map (λ k. k.out) (filter (is_held l.self.binding) (take l.latch-index l.self.net.latches)))
