use Rattle.std.proofs.Common.{◌≡◌, ◌+◌, drop}
use Rattle.poly_mixed.specs.Labels.{bit_count}
use Rattle.poly_mixed.proofs.labels.Labels.net_rank.Given as goal

abbrev pub invariant-loop-word : goal.invariant-loop-word
invariant-loop-word l = l.bits + bit_count (drop l.word-index l.word-items) ≡ bit_count l.word-items
