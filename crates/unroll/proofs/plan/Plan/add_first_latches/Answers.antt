use Rattle.std.proofs.Common.{ap, arith, get_or, length, map, not}
use Rattle.unroll.specs.private.Plan.{with_gates, net_count}
use Rattle.unroll.proofs.GrowLemmas.{put_more, puts_gates, joins_both, joins_filter, joins_map, room_next}
use Rattle.std.specs.List.{filter}
use Rattle.net_core.specs.LatchValue.{LatchValue}
use Rattle.net_core.specs.declared.latch.Start.TheVariants.{Zero}
use Rattle.unroll.specs.Gates.{is_held, start_gate}
use Rattle.unroll.proofs.plan.Plan.add_first_latches.Goals as goal

pub add_first_latch-requires-clause-room : goal.add_first_latch-requires-clause-room
add_first_latch-requires-clause-room c = room_next (net_count c.args.self.now.net c.args.self.now.binding c.args.self.now.cycles) (λ ls. map start_gate (filter (λ (k : LatchValue). not (is_held c.args.self.now.binding k)) ls)) c.args.self.now.net.latches c.loop-latch.latch-index (record { next = 0; out = 0; start = Zero }) (get_or c.latches-latch-items.result.now c.loop-latch.latch-index (record { next = 0; out = 0; start = Zero })) c.args.maker.now c.loop-latch.maker (joins_both (map start_gate) (filter (λ (k : LatchValue). not (is_held c.args.self.now.binding k))) (joins_map start_gate) (joins_filter (λ (k : LatchValue). not (is_held c.args.self.now.binding k)))) (omega (arith, ap length c.latches-latch-items.ensures.latches)) (ap (λ xs. get_or xs c.loop-latch.latch-index (record { next = 0; out = 0; start = Zero })) c.latches-latch-items.ensures.latches) c.requires c.loop-latch.invariant

pub loop-latch-preserved : goal.loop-latch-preserved
loop-latch-preserved c = put_more with_gates (λ ls. map start_gate (filter (λ (k : LatchValue). not (is_held c.args.self.now.binding k)) ls)) c.args.self.now.net.latches c.loop-latch.latch-index (record { next = 0; out = 0; start = Zero }) (get_or c.latches-latch-items.result.now c.loop-latch.latch-index (record { next = 0; out = 0; start = Zero })) c.args.maker.now c.loop-latch.maker c.add_first_latch.new.maker puts_gates (joins_both (map start_gate) (filter (λ (k : LatchValue). not (is_held c.args.self.now.binding k))) (joins_map start_gate) (joins_filter (λ (k : LatchValue). not (is_held c.args.self.now.binding k)))) (omega (arith, ap length c.latches-latch-items.ensures.latches)) (ap (λ xs. get_or xs c.loop-latch.latch-index (record { next = 0; out = 0; start = Zero })) c.latches-latch-items.ensures.latches) c.loop-latch.invariant c.in_ok-add_first_latch.ensures
