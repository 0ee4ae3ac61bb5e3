use Rattle.std.proofs.Common.{◌≡◌, map, take}
use Rattle.std.specs.List.{filter}
use Rattle.net_words.specs.Feeds.{is_fed}
use Rattle.unroll.specs.Gates.{feeding_gate}
use Rattle.unroll.specs.private.Plan.{with_gates}
use Rattle.unroll.proofs.plan.Plan.add_first_inputs.Given as goal

abbrev pub invariant-loop-n : goal.invariant-loop-n
invariant-loop-n l = l.maker ≡ with_gates l.fn.maker (map (feeding_gate l.self.net l.self.binding l.self.cycles 0) (filter (is_fed l.self.binding.feeds) (take l.n-index l.self.net.inputs)))
