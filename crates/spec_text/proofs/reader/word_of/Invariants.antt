use Rattle.std.proofs.Common.{◌≡◌, ◌+◌, drop}
use Rattle.std.specs.Option.{option_map}
use Rattle.poly_mixed.specs.Labels.{word_of}
use Rattle.spec_text.proofs.reader.word_of.Given as goal

abbrev pub invariant-loop-word : goal.invariant-loop-word
invariant-loop-word l = option_map (λ k. l.word + k) (word_of (drop l.word l.labels.words) l.name) ≡ word_of l.labels.words l.name
