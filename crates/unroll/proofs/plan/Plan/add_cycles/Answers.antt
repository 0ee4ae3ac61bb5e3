use Rattle.std.proofs.Common.{length}
use Rattle.unroll.specs.Gates.{first_gates, gates_to}
use Rattle.unroll.specs.private.Plan.{net_count}
use Rattle.unroll.proofs.GrowLemmas.{less_room}
use Rattle.unroll.proofs.CycleLemmas.{first_few, next_room, next_step}
use Rattle.unroll.proofs.plan.Plan.add_cycles.Goals as goal

pub add_first-requires-clause-room : goal.add_first-requires-clause-room
add_first-requires-clause-room c = less_room (net_count c.args.self.now.net c.args.self.now.binding c.args.self.now.cycles) (length (gates_to c.args.self.now.net c.args.self.now.binding c.args.self.now.cycles c.args.self.now.cycles)) (length (first_gates c.args.self.now.net c.args.self.now.binding c.args.self.now.cycles)) c.args.maker.now (first_few c.args.self.now.net c.args.self.now.binding c.args.self.now.cycles c.args.self.now.cycles) c.requires.room

pub add_next-requires-clause-room : goal.add_next-requires-clause-room
add_next-requires-clause-room c = next_room c.args.self.now.net c.args.self.now.binding c.args.self.now.cycles c.loop-t.t c.args.maker.now c.loop-t.maker c.loop-t-test.true c.requires.room c.loop-t.invariant

pub loop-t-preserved : goal.loop-t-preserved
loop-t-preserved c = next_step c.args.self.now.net c.args.self.now.binding c.args.self.now.cycles c.loop-t.t c.args.maker.now c.loop-t.maker c.add_next.new.maker c.loop-t.invariant c.in_ok-add_next.ensures
