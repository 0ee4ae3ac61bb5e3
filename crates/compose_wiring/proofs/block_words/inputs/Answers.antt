use Rattle.std.proofs.Common.{◌∙◌, ap, arith, take_all}
use Rattle.std.specs.Prelude.{is_some}
use Rattle.net_blif.specs.Table.{numbers_in, Numbers}
use Rattle.compose_model.specs.NamedWord.{inputs_among}
use Rattle.compose_wiring.specs.private.Words.{in_some}
use Rattle.compose_wiring.proofs.StepLemmas.{inputs_known}
use Rattle.compose_wiring.proofs.block_words.inputs.Goals as goal

pub loop-place-init : goal.loop-place-init
loop-place-init c = λ name. ap (λ (f : Numbers). is_some (f name)) c.new-table.ensures

pub loop-place-preserved : goal.loop-place-preserved
loop-place-preserved c = inputs_known c.args.words.now c.loop-place.place c.word_at.result.now (numbers_in c.loop-place.table) (numbers_in c.add_word.new.table) c.word_at.ensures c.loop-place.invariant c.in_ok-add_word.ensures

pub returns : goal.returns
returns c = λ name. c.loop-place.invariant name ∙ ap (λ ws. in_some (inputs_among ws) name) (take_all c.loop-place.place c.args.words.now (omega (arith, c.loop-place-test.false)))
