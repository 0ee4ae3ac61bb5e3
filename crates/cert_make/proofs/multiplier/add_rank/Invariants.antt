use Rattle.std.proofs.Common.{◌≡◌, ◌<◌, drop}
use Rattle.poly_mixed.specs.Labels.{rank_text, bit_count}
use Rattle.cert_make.proofs.multiplier.add_rank.Given as goal

abbrev pub invariant-loop-word : goal.invariant-loop-word
invariant-loop-word l = record {
  named : l.left < bit_count (drop l.word l.labels.words);
  same : rank_text (drop l.word l.labels.words) l.labels.nets l.left ≡ rank_text l.labels.words l.labels.nets l.rank;
  out : l.out.items ≡ l.initial.out.items;
}
