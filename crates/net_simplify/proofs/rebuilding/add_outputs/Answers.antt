use Rattle.std.proofs.Common.{◌∙◌, ap}
use Rattle.net_core.specs.NetList.{nets}
use Rattle.net_simplify.proofs.FillLemmas.{output_added, outputs_added, item_exists}
use Rattle.net_simplify.proofs.rebuilding.add_outputs.Goals as goal

pub output-requires : goal.output-requires
output-requires c = item_exists (nets c.loop-output.maker) (nets c.args.net.now) c.outputs-output-items.result.now c.args.net.now.outputs c.loop-output.output-index c.outputs-output-items.ensures.outputs c.loop-output-test.true c.outputs-output-items.ensures.sound.inside.outputs (ap nets c.loop-output.invariant ∙ c.requires)

pub loop-output-preserved : goal.loop-output-preserved
loop-output-preserved c = output_added c.args.maker.now c.loop-output.maker _ c.outputs-output-items.result.now c.args.net.now.outputs c.loop-output.output-index c.outputs-output-items.ensures.outputs c.loop-output-test.true c.loop-output.invariant c.in_ok-output.ensures.made

pub returns : goal.returns
returns c = outputs_added c.args.maker.now c.loop-output.maker c.outputs-output-items.result.now c.args.net.now.outputs c.loop-output.output-index c.outputs-output-items.ensures.outputs c.loop-output-test.false c.loop-output.invariant
