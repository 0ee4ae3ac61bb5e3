use Rattle.std.proofs.Common.{◌≡◌, map, take}
use Rattle.unroll.specs.Nets.{unnamed}
use Rattle.unroll.specs.private.Plan.{with_labels}
use Rattle.unroll.proofs.plan.Plan.add_cycle_labels.Given as goal

abbrev pub invariant-loop-n : goal.invariant-loop-n
invariant-loop-n l = l.maker ≡ with_labels l.fn.maker (map unnamed (take l.n l.self.net.labels))
