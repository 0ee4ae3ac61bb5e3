use Rattle.std.proofs.Common.{refl}
use Rattle.net_core.proofs.CountLemmas.{all_counts, no_counts, one_count_more}
use Rattle.net_core.proofs.drivers.counts.Goals as goal

pub loop-driven_net-init : goal.loop-driven_net-init
loop-driven_net-init c = no_counts c.args.driven.now c.args.nets c.in_ok-counts.counts.items (c.in_ok-counts.ensures.items_if_clones_equal (λ y e. e))

pub loop-driven_net-preserved : goal.loop-driven_net-preserved
loop-driven_net-preserved c =
    one_count_more c.loop-driven_net.counts.items c.args.driven.now c.loop-driven_net.driven_net-index _ c.args.nets c.index.result.now c.one_more.result c.index.ensures c.one_more.ensures c.loop-driven_net-test.true refl (c.requires c.loop-driven_net.driven_net-index 0 c.loop-driven_net-test.true) c.loop-driven_net.invariant

pub returns : goal.returns
returns c = all_counts c.args.driven.now c.args.nets c.loop-driven_net.counts.items c.loop-driven_net.driven_net-index c.loop-driven_net-test.false c.loop-driven_net.invariant
