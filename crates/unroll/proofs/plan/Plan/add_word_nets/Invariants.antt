use Rattle.std.proofs.Common.{◌≡◌, ◌++◌, take, Some}
use Rattle.std.specs.Prelude.{slice_get}
use Rattle.net_core.specs.NetList.{nets}
use Rattle.net_words.specs.declared.bound.BoundWord.{BoundWord}
use Rattle.unroll.specs.Places.{cycle_nets, first_bit}
use Rattle.unroll.specs.Unrolled.{nets_with}
use Rattle.unroll.proofs.plan.Plan.add_word_nets.Given as goal

abbrev pub invariant-loop-place : goal.invariant-loop-place
invariant-loop-place l = (word : BoundWord) → slice_get l.self.binding.words l.w ≡ Some word → l.list.items ≡ l.fn.list.items ++ take l.place (nets_with (nets l.self.net) l.self.cycles l.self.binding.k (first_bit l.self.binding.k (cycle_nets (nets l.self.net) l.self.cycles) l.self.binding.words l.w) word.role word.nets)
