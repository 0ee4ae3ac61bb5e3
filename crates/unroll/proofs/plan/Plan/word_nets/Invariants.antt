use Rattle.std.proofs.Common.{◌≡◌, ◌++◌, drop}
use Rattle.net_core.specs.NetList.{nets}
use Rattle.unroll.specs.Places.{cycle_nets, first_bit}
use Rattle.unroll.specs.Unrolled.{nets_of_words}
use Rattle.unroll.proofs.plan.Plan.word_nets.Given as goal

abbrev pub invariant-loop-w : goal.invariant-loop-w
invariant-loop-w l = l.list.items ++ nets_of_words (nets l.self.net) l.self.cycles l.self.binding.k (first_bit l.self.binding.k (cycle_nets (nets l.self.net) l.self.cycles) l.self.binding.words l.w) (drop l.w l.self.binding.words) ≡ nets_of_words (nets l.self.net) l.self.cycles l.self.binding.k (cycle_nets (nets l.self.net) l.self.cycles) l.self.binding.words
