use Rattle.std.proofs.Common.{◌≡◌, ◌++◌, take, Some}
use Rattle.std.specs.Prelude.{slice_get}
use Rattle.net_words.specs.declared.bound.BoundWord.{BoundWord}
use Rattle.net_simplify.proofs.circuit.add_word.Given as goal

abbrev pub invariant-loop-place : goal.invariant-loop-place
invariant-loop-place l = (word : BoundWord) → slice_get l.binding.words l.w ≡ Some word → l.list.items ≡ l.initial.list.items ++ take l.place word.nets
