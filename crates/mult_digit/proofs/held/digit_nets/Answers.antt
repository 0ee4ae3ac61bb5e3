use Rattle.std.proofs.Common.{◌∙◌, []}
use Rattle.make_nets.proofs.PortLemmas.{range_step}
use Rattle.mult_digit.proofs.held.digit_nets.Goals as goal

pub loop-e-preserved : goal.loop-e-preserved
loop-e-preserved c = c.in_ok-push.ensures.items ∙ range_step c.args.first c.loop-e.e [] c.loop-e.list.items c.loop-e.invariant
