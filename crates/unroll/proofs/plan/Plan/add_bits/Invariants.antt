use Rattle.std.proofs.Common.{◌≡◌, ◌-◌}
use Rattle.std.specs.List.{range_with_len}
use Rattle.net_core.specs.NetList.{nets}
use Rattle.unroll.specs.Places.{cycle_nets}
use Rattle.unroll.specs.private.Plan.{with_inputs}
use Rattle.unroll.proofs.plan.Plan.add_bits.Given as goal

abbrev pub invariant-loop-n : goal.invariant-loop-n
invariant-loop-n l = l.maker ≡ with_inputs l.fn.maker (range_with_len (cycle_nets (nets l.self.net) l.self.cycles) (l.n - cycle_nets (nets l.self.net) l.self.cycles))
