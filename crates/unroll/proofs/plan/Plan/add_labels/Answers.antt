use Rattle.std.proofs.Common.{arith}
use Rattle.unroll.proofs.CodeLemmas.{room_for_one, room_in_labels}
use Rattle.net_core.specs.NetList.{nets}
use Rattle.unroll.proofs.plan.Plan.add_labels.Goals as goal

pub add_cycle_labels-requires : goal.add_cycle_labels-requires
add_cycle_labels-requires c = room_for_one (nets c.args.maker.now) c.args.self.now.net.labels c.args.self.now.cycles c.requires

pub add_cycle_labels-requires-in-loop : goal.add_cycle_labels-requires-in-loop
add_cycle_labels-requires-in-loop c = room_in_labels c.args.maker.now c.loop.maker c.args.self.now.net.labels c.loop.counter c.args.self.now.cycles c.requires (omega arith) c.loop.invariant
