use Rattle.std.proofs.Common.{◌≡◌, ◌+◌, length, drop}
use Rattle.make_nets.specs.Ports.{word_names}
use Rattle.make_nets.proofs.ports.count_of.Given as goal

abbrev pub invariant-loop-word : goal.invariant-loop-word
invariant-loop-word l = l.count + length (word_names (drop l.word-index l.words)) ≡ length (word_names l.words)
