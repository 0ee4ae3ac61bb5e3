use Rattle.std.proofs.Common.{◌≡◌}
use Rattle.unroll.specs.Gates.{gates_to}
use Rattle.unroll.specs.private.Plan.{with_gates}
use Rattle.unroll.proofs.plan.Plan.add_cycles.Given as goal

abbrev pub invariant-loop-t : goal.invariant-loop-t
invariant-loop-t l = l.maker ≡ with_gates l.fn.maker (gates_to l.self.net l.self.binding l.self.cycles l.t)
