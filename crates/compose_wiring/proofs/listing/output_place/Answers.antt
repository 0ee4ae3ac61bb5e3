use Rattle.std.proofs.Common.{◌∙◌, sym}
use Rattle.compose_wiring.proofs.StepLemmas.{outputs_here, outputs_later}
use Rattle.compose_wiring.proofs.listing.output_place.Goals as goal

pub returns-then-is_output : goal.returns-then-is_output
returns-then-is_output c = (c.word_at.result.now, c.word_at.ensures, outputs_here c.args.words.now c.loop-place.place c.word_at.result.now c.word_at.ensures c.loop-place.invariant c.requires (sym c.is_output.ensures ∙ c.if-is_output.true))

pub loop-place-preserved : goal.loop-place-preserved
loop-place-preserved c = outputs_later c.args.words.now c.loop-place.place c.word_at.result.now c.word_at.ensures c.loop-place.invariant (sym c.is_output.ensures ∙ c.if-is_output.false)
