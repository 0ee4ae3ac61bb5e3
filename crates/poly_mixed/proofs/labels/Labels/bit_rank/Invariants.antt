use Rattle.std.proofs.Common.{◌≡◌, ◌+◌, ℕ, drop}
use Rattle.std.specs.Option.{option_map}
use Rattle.poly_mixed.specs.Labels.{bit_count, bit_of}
use Rattle.poly_mixed.proofs.labels.Labels.bit_rank.Given as goal

abbrev pub invariant-loop-word : goal.invariant-loop-word
invariant-loop-word l = record {
  bits : l.first + bit_count (drop l.word-index l.word-items) ≡ bit_count l.word-items;
  same : (n : ℕ) → option_map (λ r. l.first + r) (bit_of (drop l.word-index l.word-items) l.name n) ≡ bit_of l.word-items l.name n;
}
