use Rattle.std.proofs.Common.{◌≡◌, ◌+◌, ◌*◌, ◌≤◌, drop}
use Rattle.poly_mixed.specs.Labels.{bit_count}
use Rattle.cert_make.proofs.short.word_bits.Given as goal

abbrev pub invariant-loop-word : goal.invariant-loop-word
invariant-loop-word l = record {
  sum : l.bits + bit_count (drop l.word l.labels.words) ≡ bit_count l.labels.words;
  small : l.bits ≤ 4294967296 * l.word;
}
