use Rattle.std.proofs.Common.{◌≡◌, map, take}
use Rattle.net_core.specs.NetList.{nets}
use Rattle.unroll.specs.Places.{net_at}
use Rattle.unroll.specs.private.Plan.{with_outputs}
use Rattle.unroll.proofs.plan.Plan.add_outputs.Given as goal

abbrev pub invariant-loop-n : goal.invariant-loop-n
invariant-loop-n l = l.maker ≡ with_outputs l.fn.maker (map (net_at (nets l.self.net) l.self.cycles) (take l.n-index l.self.net.outputs))
