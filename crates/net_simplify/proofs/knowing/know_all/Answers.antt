use Rattle.std.proofs.Common.{◌∙◌, ℕ, List, length, ap, arith, refl}
use Rattle.std.specs.Prelude.{slice_index_or}
use Rattle.std.proofs.lemmas.Option.{slice_get_read}
use Rattle.net_core.specs.GateValue.{GateValue}
use Rattle.net_simplify.specs.private.Marks.{gates_by}
use Rattle.net_simplify.proofs.MarkLemmas.{gate_at, gate_got, gate_out, in_order_by, item_got, order_long, order_within}
use Rattle.net_simplify.proofs.PlacedLemmas.{are_placed}
use Rattle.net_simplify.proofs.SettleLemmas.{underway_start}
use Rattle.net_simplify.proofs.UnderwayLemmas.{underway_end}
use Rattle.net_simplify.proofs.knowing.know_all.Goals as goal

pub loop-position-init : goal.loop-position-init
loop-position-init c = (
  c.requires.begun.0.0,
  λ ends marked. underway_start c.args.net.now ends (gates_by c.args.net.now.gates c.args.order.now) c.args.known.now c.new-catalog.result c.gates-gates.ensures.sound c.requires.begun.0.0 c.requires.begun.0.1 c.requires.begun.1.1 c.new-catalog.ensures,
)

pub bounds-gates-position : goal.bounds-gates-position
bounds-gates-position c =
    let k : ℕ = c.loop-position.position-index in
    omega (arith, ap (λ (gs : List GateValue). length gs) c.gates-gates.ensures.gates, order_within c.args.net.now c.args.order.now k (slice_index_or c.args.order.now k 0) c.requires.order (item_got c.args.order.now k c.loop-position-test.true))

pub know_gate-requires : goal.know_gate-requires
know_gate-requires c =
    let k : ℕ = c.loop-position.position-index in
    let p : ℕ = slice_index_or c.args.order.now k 0 in
    let inside = order_within c.args.net.now c.args.order.now k p c.requires.order (item_got c.args.order.now k c.loop-position-test.true) in
    let got = slice_get_read c.gates-gates.result.now (length c.gates-gates.result.now) p c.index-gates-position.result refl (omega (arith, inside, ap (λ (gs : List GateValue). length gs) c.gates-gates.ensures.gates)) c.index-gates-position.is in
    omega (arith, c.loop-position.invariant.0, gate_out c.args.net.now p c.index-gates-position.result c.gates-gates.ensures.sound (gate_got c.args.net.now c.gates-gates.result.now p c.index-gates-position.result c.gates-gates.ensures.gates got))

pub loop-position-preserved : goal.loop-position-preserved
loop-position-preserved c =
    let k : ℕ = c.loop-position.position-index in
    let p : ℕ = slice_index_or c.args.order.now k 0 in
    let at = item_got c.args.order.now k c.loop-position-test.true in
    let inside = order_within c.args.net.now c.args.order.now k p c.requires.order at in
    let got = slice_get_read c.gates-gates.result.now (length c.gates-gates.result.now) p c.index-gates-position.result refl (omega (arith, inside, ap (λ (gs : List GateValue). length gs) c.gates-gates.ensures.gates)) c.index-gates-position.is in
    let here = gate_at c.args.net.now c.args.order.now k p c.index-gates-position.result at (gate_got c.args.net.now c.gates-gates.result.now p c.index-gates-position.result c.gates-gates.ensures.gates got) in
    let placed = are_placed c.args.net.now (gates_by c.args.net.now.gates c.args.order.now) c.gates-gates.ensures.sound (in_order_by c.args.net.now c.args.order.now c.requires.order) in (
      c.in_ok-know_gate.ensures.long ∙ c.loop-position.invariant.0,
      λ ends marked. c.in_ok-know_gate.ensures.step c.args.net.now ends (gates_by c.args.net.now.gates c.args.order.now) k placed here marked (c.loop-position.invariant.1 ends marked),
    )

pub returns : goal.returns
returns c = λ ends marked.
    underway_end c.args.net.now ends (gates_by c.args.net.now.gates c.args.order.now) c.loop-position.position-index c.loop-position.known c.loop-position.catalog
    (omega (arith, order_long c.args.net.now c.args.order.now, c.loop-position-test.false)) (c.loop-position.invariant.1 ends marked)
