use Rattle.std.proofs.Common.{◌≡◌, ◌<◌, ◌^◌, ℕ, List, Some, length, get_or, sym, ◌∙◌, ap, subst, arith}
use Rattle.std.specs.Prelude.{slice_get}
use Rattle.std.proofs.lemmas.Option.{slice_get-get_or}
use Rattle.lists.specs.laws.ReadLaws.{got_read}
use Rattle.net_core.specs.GateValue.{GateValue}
use Rattle.net_core.specs.NetList.{NetList, nets}
use Rattle.net_core.specs.Sound.{IsSound}
use Rattle.stage_model.proofs.EliminationLemmas.{elimination_long}
use Rattle.rato_reduce.proofs.InsideLemmas.{out_below}
use Rattle.rato_reduce.proofs.TurnLemmas.{few_turns, position_inside}
use Rattle.rato_reduce.proofs.first_cut.places.Goals as goal

pub bounds-gates-order : goal.bounds-gates-order
bounds-gates-order c =
    let net = c.args.circuit.now.net in
    let order = c.args.order.now in
    let position = get_or order c.loop-t.t 0 in
    let gates : c.gates-gates.result.now ≡ net.gates = c.gates-gates.ensures.gates ∙ ap (λ (n : NetList). n.gates) c.net-net.ensures.net in
    let inside = position_inside net order c.loop-t.t position c.requires (slice_get-get_or order c.loop-t.t 0 c.loop-t-test.true) in
    let L : List GateValue → Type 0 = λ gs. position < length gs in
    subst L (sym gates) inside

pub overflow_cast-place : goal.overflow_cast-place
overflow_cast-place c =
    let less : c.loop-t.t < 2 ^ 32 = few_turns c.loop-t.t (length c.args.order.now) (length c.args.circuit.now.net.gates) (length c.args.circuit.now.net.latches) c.loop-t-test.true (elimination_long c.args.circuit.now.net c.args.order.now c.requires) c.net-net.ensures.sound.inside.few_gates in
    omega (arith, less)

pub rank-rank-requires : goal.rank-rank-requires
rank-rank-requires c =
    let net = c.args.circuit.now.net in
    let order = c.args.order.now in
    let position = get_or order c.loop-t.t 0 in
    let gate = c.index-gates-order.result in
    let gates : c.gates-gates.result.now ≡ net.gates = c.gates-gates.ensures.gates ∙ ap (λ (n : NetList). n.gates) c.net-net.ensures.net in
    let inside = position_inside net order c.loop-t.t position c.requires (slice_get-get_or order c.loop-t.t 0 c.loop-t-test.true) in
    let L : List GateValue → Type 0 = λ gs. position < length gs in
    let S : List GateValue → Type 0 = λ gs. slice_get gs position ≡ Some gate in
    let N : NetList → Type 0 = λ n. IsSound n in
    let P : ℕ → Type 0 = λ n. n < nets net in
    let sound = subst N c.net-net.ensures.net c.gates-gates.ensures.sound in
    subst P (sym c.out.ensures) (out_below net gate sound (position, subst S gates (got_read c.gates-gates.result.now position gate (subst L (sym gates) inside) c.index-gates-order.is)))
