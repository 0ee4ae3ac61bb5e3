use Rattle.std.proofs.Common.{◌≡◌, ◌++◌, drop, map}
use Rattle.circuit_model.specs.Word.{word_nets}
use Rattle.circuit_model.specs.Flat.{word_of}
use Rattle.plain_runs.proofs.ranks.nets_of.Given as goal

abbrev pub invariant-loop-word : goal.invariant-loop-word
invariant-loop-word l = l.list.items ++ word_nets (map word_of (drop l.word-index l.words)) ≡ word_nets (map word_of l.words)
