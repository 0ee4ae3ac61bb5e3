use Rattle.std.proofs.Common.{◌≡◌, ◌<◌, ◌+◌, ℕ, List, Some, None, length, get_or, refl, subst, sym, ap, ◌∙◌, arith}
use Rattle.std.specs.Prelude.{slice_get}
use Rattle.std.proofs.lemmas.Option.{slice_get-get_or}
use Rattle.gf_basis.specs.BasisParts.{elements_of}
use Rattle.lists.specs.laws.ReadLaws.{got_read}
use Rattle.net_core.specs.GateValue.{GateValue}
use Rattle.net_core.specs.NetList.{NetList, nets}
use Rattle.net_core.specs.Sound.{IsSound}
use Rattle.net_words.specs.BoundTo.{output_bits}
use Rattle.net_words.specs.Variables.{variables}
use Rattle.poly_mixed.specs.Polynomial.{Terms}
use Rattle.circuit_model.specs.OfBinding.{output_word}
use Rattle.stage_model.specs.Cut.{BoundCut}
use Rattle.stage_model.specs.Stage.{IsOfStage}
use Rattle.stage_model.specs.Variables.{rank_in}
use Rattle.stage_model.proofs.EliminationLemmas.{elimination_long}
use Rattle.stage_model.proofs.NoneOver.{IsNoneOver}
use Rattle.rato_reduce.proofs.BoundLemmas.{none_before, one_more, all_within}
use Rattle.rato_reduce.proofs.RecordedLemmas.{nothing_recorded}
use Rattle.rato_reduce.proofs.SilentLemmas.{silent_step}
use Rattle.rato_reduce.proofs.TurnLemmas.{position_inside, first_now, turn, told_more, is_cut, is_recorded, Now}
use Rattle.rato_reduce.proofs.in_buckets.put_all.Goals as goal

pub loop-t-init : goal.loop-t-init
loop-t-init g c =
    let degree = g.F.Ring.degree c.args.field.now in
    let mul = g.F.Ring.product c.args.field.now in
    let circuit = c.args.circuit.now in
    let basis = elements_of c.args.output.now in
    let order = c.args.order.now in
    let first = first_now degree mul circuit basis order c.requires.order (output_bits circuit.binding.words) c.put_output.new.cut.terms c.net-net.ensures.is_bound c.requires.bits c.requires.basis.elements.size refl c.in_ok-put_output.ensures in
    let P : Terms → Type 0 = Now degree mul circuit basis order c.requires.order 0 in
    let now = subst P (sym c.in_ok-check_size.ensures.same) first in
    record {
      is = now;
      within = one_more degree mul (BoundCut circuit basis) c.args.bound 0 c.check_size.new.cut.terms (none_before degree mul (BoundCut circuit basis) c.args.bound) (is_cut degree mul circuit basis order c.requires.order 0 c.check_size.new.cut.terms now) c.in_ok-check_size.ensures.within;
      recorded = nothing_recorded degree mul circuit.net (variables (nets circuit.net) circuit.binding.words) (output_word circuit.binding.words basis) order None;
    }

pub bounds-gates-order : goal.bounds-gates-order
bounds-gates-order g c =
    let net = c.args.circuit.now.net in
    let order = c.args.order.now in
    let position = get_or order c.loop-t.t 0 in
    let gates : c.gates.result.now ≡ net.gates = c.gates.ensures.gates ∙ ap (λ (n : NetList). n.gates) c.net-net.ensures.net in
    let inside = position_inside net order c.loop-t.t position c.requires.order (slice_get-get_or order c.loop-t.t 0 c.loop-t-test.true) in
    let L : List GateValue → Type 0 = λ gs. position < length gs in
    subst L (sym gates) inside

pub put_gate-requires-clause-gate : goal.put_gate-requires-clause-gate
put_gate-requires-clause-gate g c =
    let net = c.args.circuit.now.net in
    let order = c.args.order.now in
    let position = get_or order c.loop-t.t 0 in
    let gates : c.gates.result.now ≡ net.gates = c.gates.ensures.gates ∙ ap (λ (n : NetList). n.gates) c.net-net.ensures.net in
    let inside = position_inside net order c.loop-t.t position c.requires.order (slice_get-get_or order c.loop-t.t 0 c.loop-t-test.true) in
    let L : List GateValue → Type 0 = λ gs. position < length gs in
    let S : List GateValue → Type 0 = λ gs. slice_get gs position ≡ Some c.index-gates-order.result in
    (position, subst S gates (got_read c.gates.result.now position c.index-gates-order.result (subst L (sym gates) inside) c.index-gates-order.is))

pub loop-t-preserved : goal.loop-t-preserved
loop-t-preserved g c =
    let degree = g.F.Ring.degree c.args.field.now in
    let mul = g.F.Ring.product c.args.field.now in
    let circuit = c.args.circuit.now in
    let basis = elements_of c.args.output.now in
    let order = c.args.order.now in
    let is = c.requires.order in
    let t = c.loop-t.t in
    let position = get_or order t 0 in
    let gate = c.index-gates-order.result in
    let gates : c.gates.result.now ≡ circuit.net.gates = c.gates.ensures.gates ∙ ap (λ (n : NetList). n.gates) c.net-net.ensures.net in
    let N : NetList → Type 0 = λ n. IsSound n in
    let sound = subst N c.net-net.ensures.net c.gates.ensures.sound in
    let at = slice_get-get_or order t 0 c.loop-t-test.true in
    let L : List GateValue → Type 0 = λ gs. position < length gs in
    let S : List GateValue → Type 0 = λ gs. slice_get gs position ≡ Some gate in
    let at_net = subst S gates (got_read c.gates.result.now position gate (subst L (sym gates) (position_inside circuit.net order t position is at)) c.index-gates-order.is) in
    let put = turn degree mul circuit basis order is t position gate c.loop-t.cut.terms c.put_gate.new.cut.terms sound c.net-net.ensures.is_bound at at_net c.loop-t.invariant.is c.in_ok-put_gate.ensures.reduced c.in_ok-put_gate.ensures.values in
    let P : Terms → Type 0 = Now degree mul circuit basis order is (t + 1) in
    let next = subst P (sym c.in_ok-check_size-2.ensures.same) put in
    let made = silent_step degree (rank_in (variables (nets circuit.net) circuit.binding.words) gate.out) gate.out c.loop-t.cut.terms c.loop-t.invariant.is.reduced in
    record {
      is = next;
      within = one_more degree mul (BoundCut circuit basis) c.args.bound (t + 1) c.check_size-in-loop-t.new.cut.terms c.loop-t.invariant.within (is_cut degree mul circuit basis order is (t + 1) c.check_size-in-loop-t.new.cut.terms next) c.in_ok-check_size-2.ensures.within;
      recorded = told_more degree mul circuit basis order is t position gate c.loop-t.cut.terms made.0 None None None at at_net c.loop-t.invariant.is made.1 c.loop-t.invariant.recorded tt;
    }

pub returns-clause-last : goal.returns-clause-last
returns-clause-last g c =
    let degree = g.F.Ring.degree c.args.field.now in
    let mul = g.F.Ring.product c.args.field.now in
    let circuit = c.args.circuit.now in
    let basis = elements_of c.args.output.now in
    let order = c.args.order.now in
    let is = c.requires.order in
    let long : length order ≡ length circuit.net.gates = elimination_long circuit.net order is in
    let done : c.loop-t.t ≡ length circuit.net.gates = omega arith in
    let P : ℕ → Type 0 = λ n. IsOfStage degree mul (BoundCut circuit basis n) c.loop-t.cut.terms in
    let Q : Terms → Type 0 = λ ts. IsOfStage degree mul (BoundCut circuit basis (length circuit.net.gates)) ts in
    subst Q (sym (c.in_ok-terms.ensures ∙ c.in_ok-merge.ensures)) (subst P done (is_cut degree mul circuit basis order is c.loop-t.t c.loop-t.cut.terms c.loop-t.invariant.is))

pub returns-clause-within : goal.returns-clause-within
returns-clause-within g c =
    let circuit = c.args.circuit.now in
    let order = c.args.order.now in
    let long : length order ≡ length circuit.net.gates = elimination_long circuit.net order c.requires.order in
    let done : c.loop-t.t ≡ length circuit.net.gates = omega arith in
    let P : ℕ → Type 0 = λ n. IsNoneOver (g.F.Ring.degree c.args.field.now) (g.F.Ring.product c.args.field.now) (BoundCut circuit (elements_of c.args.output.now)) (n + 1) c.args.bound in
    all_within (g.F.Ring.degree c.args.field.now) (g.F.Ring.product c.args.field.now) (BoundCut circuit (elements_of c.args.output.now)) c.args.bound (length circuit.net.gates + 1) (subst P done c.loop-t.invariant.within)

pub returns-clause-steps : goal.returns-clause-steps
returns-clause-steps g c =
    let circuit = c.args.circuit.now in
    let order = c.args.order.now in
    let long : length order ≡ length circuit.net.gates = elimination_long circuit.net order c.requires.order in
    let done : c.loop-t.t ≡ length circuit.net.gates = omega arith in
    is_recorded (g.F.Ring.degree c.args.field.now) (g.F.Ring.product c.args.field.now) circuit (elements_of c.args.output.now) order c.requires.order c.loop-t.t (length circuit.net.gates) None None done c.loop-t.invariant.recorded
