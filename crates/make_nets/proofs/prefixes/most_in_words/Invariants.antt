use Rattle.std.proofs.Common.{◌≡◌, max, drop}
use Rattle.make_nets.specs.Ports.{word_names}
use Rattle.make_nets.specs.Prefix.{most_leading}
use Rattle.make_nets.proofs.prefixes.most_in_words.Given as goal

abbrev pub invariant-loop-word : goal.invariant-loop-word
invariant-loop-word l = max l.most (most_leading (word_names (drop l.word-index l.words))) ≡ most_leading (word_names l.words)
