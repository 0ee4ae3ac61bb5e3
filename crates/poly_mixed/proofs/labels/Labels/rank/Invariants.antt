use Rattle.std.proofs.Common.{◌≡◌, ◌+◌, ◌<◌, length, drop}
use Rattle.poly_mixed.specs.Labels.{rank_text, bit_count}
use Rattle.poly_mixed.proofs.labels.Labels.rank.Given as goal

abbrev pub invariant-loop-word : goal.invariant-loop-word
invariant-loop-word l = record {
  named : l.left < bit_count (drop l.word-index l.word-items) + length l.self-inside.nets.items;
  same : rank_text (drop l.word-index l.word-items) l.self-inside.nets.items l.left ≡ rank_text l.word-items l.self-inside.nets.items l.rank;
}
