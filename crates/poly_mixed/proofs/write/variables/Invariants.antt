use Rattle.std.proofs.Common.{◌≡◌, ◌++◌, map, drop, string_bytes}
use Rattle.poly_mixed.specs.Labels.{rank_text}
use Rattle.poly_mixed.specs.Text.{powers_texts, variable_texts}
use Rattle.poly_mixed.proofs.write.variables.Given as goal

abbrev pub invariant-loop-word : goal.invariant-loop-word
invariant-loop-word l = map (λ s. string_bytes s) l.texts.items ++ powers_texts (drop l.word l.labels.words) (drop l.word l.mono.exponents) ≡ powers_texts l.labels.words l.mono.exponents

abbrev pub invariant-loop-rank : goal.invariant-loop-rank
invariant-loop-rank l = map (λ s. string_bytes s) l.texts.items ++ map (rank_text l.labels.words l.labels.nets) (drop l.rank-index l.rank-items) ≡ variable_texts l.labels l.mono
