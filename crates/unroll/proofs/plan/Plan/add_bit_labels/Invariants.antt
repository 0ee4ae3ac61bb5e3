use Rattle.std.proofs.Common.{◌≡◌, map, Some}
use Rattle.std.specs.Prelude.{slice_get}
use Rattle.std.specs.List.{range_with_len}
use Rattle.net_words.specs.declared.bound.BoundWord.{BoundWord}
use Rattle.unroll.specs.Nets.{bit_label}
use Rattle.unroll.specs.private.Plan.{with_labels}
use Rattle.unroll.proofs.plan.Plan.add_bit_labels.Given as goal

abbrev pub invariant-loop-i : goal.invariant-loop-i
invariant-loop-i l = (word : BoundWord) → slice_get l.self.binding.words l.w ≡ Some word → l.maker ≡ with_labels l.fn.maker (map (bit_label word.name) (range_with_len 0 l.i))
