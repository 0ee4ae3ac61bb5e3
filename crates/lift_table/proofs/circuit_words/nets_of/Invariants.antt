use Rattle.std.proofs.Common.{◌≡◌, take, Some}
use Rattle.std.specs.Prelude.{slice_get}
use Rattle.net_words.specs.declared.bound.BoundWord.{BoundWord}
use Rattle.lift_table.proofs.circuit_words.nets_of.Given as goal

abbrev pub invariant-loop-place : goal.invariant-loop-place
invariant-loop-place l = (word : BoundWord) → slice_get l.circuit.binding.words l.w ≡ Some word → l.nets.items ≡ take l.place word.nets
