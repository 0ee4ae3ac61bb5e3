use Rattle.std.proofs.Common.{◌∙◌}
use Rattle.make_nets.proofs.PortLemmas.{range_step}
use Rattle.make_nets.proofs.ports.push_range.Goals as goal

pub loop-i-preserved : goal.loop-i-preserved
loop-i-preserved c = c.in_ok-push.ensures.items ∙ range_step c.args.from c.loop-i.i c.args.list.now.items c.loop-i.list.items c.loop-i.invariant
