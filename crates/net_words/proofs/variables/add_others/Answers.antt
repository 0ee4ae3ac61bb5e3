use Rattle.std.proofs.Common.{◌∙◌}
use Rattle.net_words.proofs.VariableLemmas.{others_step}
use Rattle.net_words.proofs.variables.add_others.Goals as goal

pub loop-net-preserved : goal.loop-net-preserved
loop-net-preserved c =
    others_step c.args.order.now.items c.loop-net.order.items c.add_other.new.order.items c.loop-net.net c.is_marked.result (c.is_marked.ensures ∙ c.requires c.loop-net.net c.loop-net-test.true) c.loop-net.invariant c.in_ok-add_other.ensures
