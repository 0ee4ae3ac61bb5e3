use Rattle.std.proofs.Common.{◌≡◌, not, take}
use Rattle.std.specs.List.{filter}
use Rattle.net_words.specs.Feeds.{is_fed}
use Rattle.unroll.specs.private.Plan.{with_inputs}
use Rattle.unroll.proofs.plan.Plan.add_frees.Given as goal

abbrev pub invariant-loop-n : goal.invariant-loop-n
invariant-loop-n l = l.maker ≡ with_inputs l.fn.maker (filter (λ n. not (is_fed l.self.binding.feeds n)) (take l.n-index l.self.net.inputs))
