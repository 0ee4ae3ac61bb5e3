use Rattle.std.proofs.Common.{◌≡◌}
use Rattle.unroll.specs.Nets.{labels_to}
use Rattle.unroll.specs.private.Plan.{with_labels}
use Rattle.unroll.proofs.plan.Plan.add_labels.Given as goal

abbrev pub invariant-loop : goal.invariant-loop
invariant-loop l = l.maker ≡ with_labels l.fn.maker (labels_to l.self.net.labels l.counter)
