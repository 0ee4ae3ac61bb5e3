-- Nets of the names of the words before were made.
use Rattle.std.proofs.Common.{◌≡◌, true, length, take}
use Rattle.make_nets.specs.MakerNames.{AreMade}
use Rattle.make_nets.specs.Ports.{word_names}
use Rattle.make_nets.proofs.outer.add_word_names.Given as goal

abbrev pub invariant-loop-word : goal.invariant-loop-word
invariant-loop-word l =
    AreMade (word_names (take l.word-index l.words)) l.maker true
    × (l.count ≡ length (word_names (take l.word-index l.words)))
