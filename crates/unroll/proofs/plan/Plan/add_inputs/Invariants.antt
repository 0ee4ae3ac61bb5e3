use Rattle.std.proofs.Common.{◌≡◌, map, take}
use Rattle.unroll.specs.Gates.{input_gate}
use Rattle.unroll.specs.private.Plan.{with_gates}
use Rattle.unroll.proofs.plan.Plan.add_inputs.Given as goal

abbrev pub invariant-loop-n : goal.invariant-loop-n
invariant-loop-n l = l.maker ≡ with_gates l.fn.maker (map (input_gate l.self.net l.self.binding l.self.cycles l.t) (take l.n-index l.self.net.inputs))
