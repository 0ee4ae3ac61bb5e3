use Rattle.std.proofs.Common.{◌∙◌, sym, Bool}
use Rattle.std.specs.Prelude.{is_some}
use Rattle.std.specs.List.{list_any}
use Rattle.net_blif.specs.Table.{numbers_in}
use Rattle.compose_model.specs.NamedWord.{NamedWord}
use Rattle.compose_wiring.specs.private.Words.{is_mixed}
use Rattle.compose_wiring.proofs.StepLemmas.{mixed_here, mixed_later}
use Rattle.compose_wiring.proofs.block_words.is_mixed.Goals as goal

pub returns-then-is_known : goal.returns-then-is_known
returns-then-is_known c =
    let test : NamedWord → Bool = λ word. list_any (λ name. is_some (numbers_in c.in_ok-table.table name)) word.nets in
    sym (mixed_here test c.args.words.now c.loop-place.place c.word_at.result.now (is_mixed c.args.words.now) c.word_at.ensures c.loop-place.invariant (sym c.is_known.ensures ∙ c.if-is_known.true))

pub loop-place-preserved : goal.loop-place-preserved
loop-place-preserved c =
    let test : NamedWord → Bool = λ word. list_any (λ name. is_some (numbers_in c.in_ok-table.table name)) word.nets in
    mixed_later test c.args.words.now c.loop-place.place c.word_at.result.now (is_mixed c.args.words.now) c.word_at.ensures c.loop-place.invariant (sym c.is_known.ensures ∙ c.if-is_known.false)
