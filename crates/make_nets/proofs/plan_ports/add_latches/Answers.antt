use Rattle.std.proofs.Common.{◌∙◌}
use Rattle.make_nets.proofs.RestLemmas.{latches_done}
use Rattle.make_nets.proofs.plan_ports.add_latches.Goals as goal

pub returns : goal.returns
returns c = latches_done c.loop-latch.maker c.args.latches.now c.loop-latch.latch-index c.loop-latch-test.false ∙ c.loop-latch.invariant.0
