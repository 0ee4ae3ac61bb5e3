use Rattle.net_simplify.proofs.SettleLemmas.{themselves_all, themselves_more, themselves_none}
use Rattle.net_simplify.proofs.known.themselves.Goals as goal

pub loop-net-init : goal.loop-net-init
loop-net-init c = themselves_none c.in_ok-forms.forms.items c.in_ok-forms.ensures.items

pub loop-net-preserved : goal.loop-net-preserved
loop-net-preserved c = themselves_more c.loop-net.forms.items _ c.loop-net.net _ c.loop-net.invariant c.in_ok-itself.ensures c.in_ok-push.ensures.items

pub returns : goal.returns
returns c = themselves_all c.loop-net.forms.items c.loop-net.net c.args.nets c.loop-net-test.false c.loop-net.auto.net-end c.loop-net.invariant
