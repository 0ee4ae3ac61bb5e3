use Rattle.std.proofs.Common.{arith}
use Rattle.net_simplify.proofs.MadeLemmas.{labels_all}
use Rattle.net_simplify.proofs.rebuilding.add_labels.Goals as goal

pub loop-number-init : goal.loop-number-init
loop-number-init c = c.requires

pub add_net-requires : goal.add_net-requires
add_net-requires c = record { sound = c.nets-number-end.ensures.sound; within = omega (arith, c.loop-number-test.true, c.nets-number-end.ensures.count); before = c.loop-number.invariant }

pub loop-number-preserved : goal.loop-number-preserved
loop-number-preserved c = c.in_ok-add_net.ensures

pub returns : goal.returns
returns c = labels_all c.args.net.now c.loop-number.maker c.loop-number.number (omega (arith, c.loop-number-test.false, c.nets-number-end.ensures.count)) c.loop-number.invariant
