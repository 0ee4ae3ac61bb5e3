use Rattle.std.proofs.Common.{◌≡◌, drop}
use Rattle.std.specs.Prelude.{is_some}
use Rattle.std.specs.List.{list_any}
use Rattle.net_blif.specs.Table.{numbers_in}
use Rattle.compose_model.specs.NamedWord.{outputs_among, NamedWord}
use Rattle.compose_wiring.specs.private.Words.{is_mixed}
use Rattle.compose_wiring.proofs.block_words.is_mixed.Given as goal

abbrev pub invariant-loop-place : goal.invariant-loop-place
invariant-loop-place l = is_mixed l.words ≡ list_any (λ (word : NamedWord). list_any (λ name. is_some (numbers_in l.table name)) word.nets) (outputs_among (drop l.place l.words))
