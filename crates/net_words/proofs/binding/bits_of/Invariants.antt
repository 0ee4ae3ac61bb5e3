use Rattle.std.proofs.Common.{◌≡◌, drop}
use Rattle.net_words.specs.Bind.{bits_of}
use Rattle.net_words.proofs.binding.bits_of.Given as goal

abbrev pub invariant-loop-word : goal.invariant-loop-word
invariant-loop-word l = bits_of (drop l.word-index l.words) ≡ bits_of l.words
