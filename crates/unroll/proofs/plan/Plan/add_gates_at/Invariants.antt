use Rattle.std.proofs.Common.{◌≡◌, map, take}
use Rattle.net_core.specs.NetList.{nets}
use Rattle.unroll.specs.Gates.{gate_at}
use Rattle.unroll.specs.private.Plan.{with_gates}
use Rattle.unroll.proofs.plan.Plan.add_gates_at.Given as goal

abbrev pub invariant-loop-gate : goal.invariant-loop-gate
invariant-loop-gate l = l.maker ≡ with_gates l.fn.maker (map (gate_at (nets l.self.net) l.t) (take l.gate-index l.self.net.gates))
