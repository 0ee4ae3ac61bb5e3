use Rattle.std.proofs.Common.{◌≡◌, ◌+◌, ◌*◌, ◌≤◌, length, drop}
use Rattle.poly_mixed.specs.Labels.{bit_count}
use Rattle.poly_mixed.proofs.labels.Labels.ranks.Given as goal

abbrev pub invariant-loop-word : goal.invariant-loop-word
invariant-loop-word l = record {
  sum : l.count + bit_count (drop l.word-index l.word-items) ≡ bit_count l.word-items + length l.self.nets;
  small : l.count ≤ length l.self.nets + 4294967296 * l.word-index;
}
