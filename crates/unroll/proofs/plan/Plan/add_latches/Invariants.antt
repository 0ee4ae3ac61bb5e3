use Rattle.std.proofs.Common.{◌≡◌, map, take}
use Rattle.net_core.specs.NetList.{nets}
use Rattle.unroll.specs.Gates.{latch_gate}
use Rattle.unroll.specs.private.Plan.{with_gates}
use Rattle.unroll.proofs.plan.Plan.add_latches.Given as goal

abbrev pub invariant-loop-latch : goal.invariant-loop-latch
invariant-loop-latch l = l.maker ≡ with_gates l.fn.maker (map (latch_gate (nets l.self.net) l.t) (take l.latch-index l.self.net.latches))
