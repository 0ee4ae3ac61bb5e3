use Rattle.stage_model.proofs.VariableLemmas.{others_step}
use Rattle.plain_runs.proofs.ranks.add_others.Goals as goal

pub loop-net-preserved : goal.loop-net-preserved
loop-net-preserved c = others_step c.args.front.now c.args.order.now.items c.loop-net.order.items c.add_other.new.order.items c.loop-net.net c.loop-net.invariant c.in_ok-add_other.ensures
