use Rattle.std.proofs.Common.{◌≡◌, length, take}
use Rattle.std.specs.List.{filter}
use Rattle.net_words.specs.Feeds.{is_fed}
use Rattle.unroll.proofs.plan.Plan.fed_inputs.Given as goal

abbrev pub invariant-loop-n : goal.invariant-loop-n
invariant-loop-n l = l.count ≡ length (filter (is_fed l.self.binding.feeds) (take l.n-index l.self.net.inputs))
