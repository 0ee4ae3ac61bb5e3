use Rattle.std.proofs.Common.{arith, length, refl}
use Rattle.net_simplify.proofs.MarkLemmas.{added_more, item_within}
use Rattle.net_simplify.proofs.marking.add_all.Goals as goal

pub add-requires : goal.add-requires
add-requires c = omega (arith, c.loop-net.invariant.long, item_within c.args.nets.now c.loop-net.net-index (length c.args.marks.now) c.loop-net-test.true c.requires)

pub loop-net-preserved : goal.loop-net-preserved
loop-net-preserved c = added_more _ c.args.marks.now c.args.nets.now _ c.loop-net.net-index _ c.loop-net-test.true refl c.requires c.loop-net.invariant c.add.ensures
