use Rattle.std.proofs.Common.{◌∙◌, ap}
use Rattle.net_core.specs.NetList.{nets}
use Rattle.net_simplify.proofs.FillLemmas.{input_added, inputs_added, item_exists}
use Rattle.net_simplify.proofs.rebuilding.add_inputs.Goals as goal

pub input-requires : goal.input-requires
input-requires c = item_exists (nets c.loop-input.maker) (nets c.args.net.now) c.inputs-input-items.result.now c.args.net.now.inputs c.loop-input.input-index c.inputs-input-items.ensures.inputs c.loop-input-test.true c.inputs-input-items.ensures.sound.inside.inputs (ap nets c.loop-input.invariant ∙ c.requires)

pub loop-input-preserved : goal.loop-input-preserved
loop-input-preserved c = input_added c.args.maker.now c.loop-input.maker _ c.inputs-input-items.result.now c.args.net.now.inputs c.loop-input.input-index c.inputs-input-items.ensures.inputs c.loop-input-test.true c.loop-input.invariant c.in_ok-input.ensures.made

pub returns : goal.returns
returns c = inputs_added c.args.maker.now c.loop-input.maker c.inputs-input-items.result.now c.args.net.now.inputs c.loop-input.input-index c.inputs-input-items.ensures.inputs c.loop-input-test.false c.loop-input.invariant
