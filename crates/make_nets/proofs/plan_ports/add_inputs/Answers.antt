use Rattle.std.proofs.Common.{◌∙◌, ap}
use Rattle.net_core.specs.NetList.{nets}
use Rattle.make_nets.proofs.RestLemmas.{inputs_done, inputs_more}
use Rattle.make_nets.proofs.plan_ports.add_inputs.Goals as goal

pub loop-net-preserved : goal.loop-net-preserved
loop-net-preserved c = (
  inputs_more c.loop-net.maker c.input.new.self c.args.inputs.now c.loop-net.net-index c.loop-net-test.true c.in_ok-input.ensures.made ∙ c.loop-net.invariant.0,
  ap nets c.in_ok-input.ensures.made ∙ c.loop-net.invariant.1,
)

pub returns : goal.returns
returns c = inputs_done c.loop-net.maker c.args.inputs.now c.loop-net.net-index c.loop-net-test.false ∙ c.loop-net.invariant.0
