use Rattle.std.proofs.Common.{◌≡◌, ◌++◌, drop}
use Rattle.net_words.specs.Variables.{bits}
use Rattle.net_words.proofs.variables.bits.Given as goal

abbrev pub invariant-loop-word : goal.invariant-loop-word
invariant-loop-word l = l.list.items ++ bits (drop l.word-index l.words) ≡ bits l.words
