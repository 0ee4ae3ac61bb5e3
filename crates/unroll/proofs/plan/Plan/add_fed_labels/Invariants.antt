use Rattle.std.proofs.Common.{◌≡◌, drop}
use Rattle.unroll.specs.Nets.{fed_labels}
use Rattle.unroll.specs.private.Plan.{with_labels}
use Rattle.unroll.proofs.plan.Plan.add_fed_labels.Given as goal

abbrev pub invariant-loop-w : goal.invariant-loop-w
invariant-loop-w l = with_labels l.maker (fed_labels l.self.binding.k (drop l.w l.self.binding.words)) ≡ with_labels l.fn.maker (fed_labels l.self.binding.k l.self.binding.words)
