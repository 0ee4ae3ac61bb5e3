use Rattle.std.proofs.Common.{◌≡◌, ◌+◌, ◌++◌, length, drop}
use Rattle.make_nets.specs.Ports.{starts_of, word_names}
use Rattle.make_nets.proofs.ports.starts.Given as goal

abbrev pub invariant-loop-word : goal.invariant-loop-word
invariant-loop-word l =
    (l.count + length (word_names (drop l.word-index l.words)) ≡ length (word_names l.words))
    × (l.list.items ++ starts_of l.role l.count (drop l.word-index l.words) ≡ starts_of l.role 0 l.words)
