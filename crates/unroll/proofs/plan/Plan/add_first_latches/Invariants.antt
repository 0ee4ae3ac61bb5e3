use Rattle.std.proofs.Common.{◌≡◌, not, map, take}
use Rattle.std.specs.List.{filter}
use Rattle.unroll.specs.Gates.{is_held, start_gate}
use Rattle.unroll.specs.private.Plan.{with_gates}
use Rattle.unroll.proofs.plan.Plan.add_first_latches.Given as goal

abbrev pub invariant-loop-latch : goal.invariant-loop-latch
invariant-loop-latch l = l.maker ≡ with_gates l.fn.maker (map start_gate (filter (λ k. not (is_held l.self.binding k)) (take l.latch-index l.self.net.latches)))
