use Rattle.std.proofs.Common.{◌∙◌, ap}
use Rattle.net_core.specs.NetList.{nets}
use Rattle.make_nets.proofs.RestLemmas.{outputs_done, outputs_more}
use Rattle.make_nets.proofs.plan_ports.add_outputs.Goals as goal

pub loop-net-preserved : goal.loop-net-preserved
loop-net-preserved c = (
  outputs_more c.loop-net.maker c.output.new.self c.args.outputs.now c.loop-net.net-index c.loop-net-test.true c.in_ok-output.ensures.made ∙ c.loop-net.invariant.0,
  ap nets c.in_ok-output.ensures.made ∙ c.loop-net.invariant.1,
)

pub returns : goal.returns
returns c = outputs_done c.loop-net.maker c.args.outputs.now c.loop-net.net-index c.loop-net-test.false ∙ c.loop-net.invariant.0
