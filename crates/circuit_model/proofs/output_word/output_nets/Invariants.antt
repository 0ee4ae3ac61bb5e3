use Rattle.std.proofs.Common.{◌≡◌, ◌++◌, drop}
use Rattle.net_words.specs.BoundTo.{output_bits}
use Rattle.circuit_model.proofs.output_word.output_nets.Given as goal

abbrev pub invariant-loop-w : goal.invariant-loop-w
invariant-loop-w l = l.list.items ++ output_bits (drop l.w l.binding.words) ≡ output_bits l.binding.words
