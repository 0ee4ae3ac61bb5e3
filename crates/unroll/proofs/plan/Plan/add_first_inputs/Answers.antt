use Rattle.std.proofs.Common.{ap, arith, get_or, length, map}
use Rattle.std.specs.List.{filter}
use Rattle.net_words.specs.Feeds.{is_fed}
use Rattle.unroll.specs.Gates.{feeding_gate}
use Rattle.unroll.specs.private.Plan.{net_count}
use Rattle.unroll.proofs.GrowLemmas.{joins_both, joins_filter, joins_map, room_next}
use Rattle.unroll.proofs.plan.Plan.add_first_inputs.Goals as goal

pub add_first_input-requires-clause-room : goal.add_first_input-requires-clause-room
add_first_input-requires-clause-room c = room_next (net_count c.args.self.now.net c.args.self.now.binding c.args.self.now.cycles) (λ ns. map (feeding_gate c.args.self.now.net c.args.self.now.binding c.args.self.now.cycles 0) (filter (is_fed c.args.self.now.binding.feeds) ns)) c.args.self.now.net.inputs c.loop-n.n-index 0 (get_or c.inputs-n-items.result.now c.loop-n.n-index 0) c.args.maker.now c.loop-n.maker (joins_both (map (feeding_gate c.args.self.now.net c.args.self.now.binding c.args.self.now.cycles 0)) (filter (is_fed c.args.self.now.binding.feeds)) (joins_map (feeding_gate c.args.self.now.net c.args.self.now.binding c.args.self.now.cycles 0)) (joins_filter (is_fed c.args.self.now.binding.feeds))) (omega (arith, ap length c.inputs-n-items.ensures.inputs)) (ap (λ xs. get_or xs c.loop-n.n-index 0) c.inputs-n-items.ensures.inputs) c.requires.room c.loop-n.invariant
