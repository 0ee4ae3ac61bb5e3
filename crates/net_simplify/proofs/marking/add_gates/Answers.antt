use Rattle.std.proofs.Common.{◌≡◌, ◌<◌, ◌-◌, ℕ, List, Some, length, ap, arith, refl}
use Rattle.std.specs.Prelude.{slice_get, slice_index_or}
use Rattle.std.proofs.lemmas.Option.{slice_get_read}
use Rattle.net_core.specs.GateValue.{GateValue}
use Rattle.net_simplify.proofs.MarkLemmas.{gate_got, gate_inputs, item_got, order_within, uses_more, uses_start}
use Rattle.net_simplify.proofs.marking.add_gates.Goals as goal

pub add_all-requires : goal.add_all-requires
add_all-requires c = λ n has. omega (arith, c.requires.ends n has, c.requires.long)

pub loop-place-init : goal.loop-place-init
loop-place-init c = uses_start c.args.net.now c.args.ends.now c.args.order.now c.add_all.new.marks c.args.marks.now (length c.args.order.now) refl c.add_all.ensures.long c.add_all.ensures.each

pub bounds-gates-order : goal.bounds-gates-order
bounds-gates-order c =
    let k : ℕ = c.loop-place.place - 1 in
    let less : k < length c.args.order.now = omega (arith, c.loop-place-test.true, c.loop-place.invariant.within) in
    omega (arith, ap (λ (gs : List GateValue). length gs) c.gates-gates.ensures.gates, order_within c.args.net.now c.args.order.now k (slice_index_or c.args.order.now k 0) c.requires.order (item_got c.args.order.now k less))

pub add_gate-requires : goal.add_gate-requires
add_gate-requires c =
    let k : ℕ = c.loop-place.place - 1 in
    let p : ℕ = slice_index_or c.args.order.now k 0 in
    let less : k < length c.args.order.now = omega (arith, c.loop-place-test.true, c.loop-place.invariant.within) in
    let inside = order_within c.args.net.now c.args.order.now k p c.requires.order (item_got c.args.order.now k less) in
    let got = slice_get_read c.gates-gates.result.now (length c.gates-gates.result.now) p c.index-gates-order.result refl (omega (arith, inside, ap (λ (gs : List GateValue). length gs) c.gates-gates.ensures.gates)) c.index-gates-order.is in
    λ n has. omega (arith, c.loop-place.invariant.long, c.requires.long, gate_inputs c.args.net.now p c.index-gates-order.result c.gates-gates.ensures.sound (gate_got c.args.net.now c.gates-gates.result.now p c.index-gates-order.result c.gates-gates.ensures.gates got) n has)

pub loop-place-preserved : goal.loop-place-preserved
loop-place-preserved c =
    let k : ℕ = c.loop-place.place - 1 in
    let p : ℕ = slice_index_or c.args.order.now k 0 in
    let less : k < length c.args.order.now = omega (arith, c.loop-place-test.true, c.loop-place.invariant.within) in
    let at = item_got c.args.order.now k less in
    let inside = order_within c.args.net.now c.args.order.now k p c.requires.order at in
    let got = slice_get_read c.gates-gates.result.now (length c.gates-gates.result.now) p c.index-gates-order.result refl (omega (arith, inside, ap (λ (gs : List GateValue). length gs) c.gates-gates.ensures.gates)) c.index-gates-order.is in
    uses_more c.args.net.now c.args.ends.now c.args.order.now c.loop-place.marks c.args.marks.now c.add_gate.new.marks c.loop-place.place k p c.index-gates-order.result refl (λ e. omega (arith, c.loop-place-test.true, e)) at (gate_got c.args.net.now c.gates-gates.result.now p c.index-gates-order.result c.gates-gates.ensures.gates got) c.loop-place.invariant c.add_gate.ensures.long c.add_gate.ensures.each
