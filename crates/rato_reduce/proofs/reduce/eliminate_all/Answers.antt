use Rattle.std.proofs.Common.{◌≡◌, ◌<◌, ◌+◌, ◌^◌, ℕ, List, length, get_or, refl, subst, sym, ap, ◌∙◌, arith, rules}
use Rattle.std.proofs.lemmas.Option.{slice_get-get_or}
use Rattle.gf_basis.specs.BasisParts.{elements_of}
use Rattle.net_words.specs.Variables.{variables}
use Rattle.circuit_model.specs.OfBinding.{output_word}
use Rattle.stage_model.specs.Cut.{BoundCut}
use Rattle.stage_model.specs.Listing.{IsRefusal, cut_listing}
use Rattle.rato_reduce.proofs.BoundLemmas.{none_before, one_more, just, all_within}
use Rattle.rato_reduce.proofs.RecordedLemmas.{nothing_recorded}
use Rattle.rato_reduce.proofs.TurnLemmas.{few_turns, few_turns_after, position_inside, first_now, turn, told_more, is_cut, is_recorded}
use Rattle.std.specs.Prelude.{slice_get}
use Rattle.poly_mixed.specs.Polynomial.{Terms}
use Rattle.std.proofs.Common.{Some}
use Rattle.lists.specs.laws.ReadLaws.{got_read}
use Rattle.net_core.specs.GateValue.{GateValue}
use Rattle.net_core.specs.NetList.{NetList, nets}
use Rattle.net_core.specs.Sound.{IsSound}
use Rattle.stage_model.specs.Stage.{IsOfStage}
use Rattle.stage_model.proofs.NoneOver.{IsNoneOver}
use Rattle.net_words.specs.BoundTo.{output_bits}
use Rattle.rato_reduce.proofs.reduce.eliminate_all.Goals as goal
use Rattle.stage_model.proofs.EliminationLemmas.{elimination_long}

pub returns-in_err-check_size-clause-fault : goal.returns-in_err-check_size-clause-fault
returns-in_err-check_size-clause-fault g c =
    let degree = g.F.Ring.degree c.args.field.now in
    let mul = g.F.Ring.product c.args.field.now in
    let circuit = c.args.circuit.now in
    let basis = elements_of c.args.output.now in
    let order = c.args.order.now in
    let is = c.requires.order in
    let first = first_now degree mul circuit basis order is (output_bits circuit.binding.words) c.add_output.new.cut.terms c.net-net.ensures.is_bound c.requires.bits c.requires.basis.elements.size refl c.in_ok-add_output.ensures in
    let fault : IsRefusal degree mul (cut_listing (length circuit.net.gates + 1) (BoundCut circuit basis)) c.args.bound c.in_err-check_size.field-0.0 =
    just degree mul (BoundCut circuit basis) c.args.bound (length circuit.net.gates + 1) 0 c.add_output.new.cut.terms c.in_err-check_size.field-0.0 (omega arith) (none_before degree mul (BoundCut circuit basis) c.args.bound)
    (is_cut degree mul circuit basis order is 0 c.add_output.new.cut.terms first) c.in_err-check_size.ensures.over.1 c.in_err-check_size.ensures.over.0 in
    search rules

pub loop-t-init : goal.loop-t-init
loop-t-init g c =
    let degree = g.F.Ring.degree c.args.field.now in
    let mul = g.F.Ring.product c.args.field.now in
    let circuit = c.args.circuit.now in
    let basis = elements_of c.args.output.now in
    let order = c.args.order.now in
    let is = c.requires.order in
    let first = first_now degree mul circuit basis order is (output_bits circuit.binding.words) c.add_output.new.cut.terms c.net-net.ensures.is_bound c.requires.bits c.requires.basis.elements.size refl c.in_ok-add_output.ensures in
    record {
      is = first;
      within = one_more degree mul (BoundCut circuit basis) c.args.bound 0 c.add_output.new.cut.terms (none_before degree mul (BoundCut circuit basis) c.args.bound) (is_cut degree mul circuit basis order is 0 c.add_output.new.cut.terms first) c.in_ok-check_size.ensures.within;
      recorded = nothing_recorded degree mul circuit.net (variables (nets circuit.net) circuit.binding.words) (output_word circuit.binding.words basis) order (g.T.Steps.steps c.args.steps.now);
    }

pub overflow_cast-t : goal.overflow_cast-t
overflow_cast-t g c =
    let few = c.net-net.ensures.sound.inside.few_gates in
    let less : c.loop-t.t < 2 ^ 32 = few_turns c.loop-t.t (length c.args.order.now) (length c.args.circuit.now.net.gates) (length c.args.circuit.now.net.latches) c.loop-t-test.true (elimination_long c.args.circuit.now.net c.args.order.now c.requires.order) few in
    omega (arith, less)

pub overflow_add-t : goal.overflow_add-t
overflow_add-t g c =
    let few = c.net-net.ensures.sound.inside.few_gates in
    let less : c.loop-t.t + 1 < 2 ^ 32 = few_turns_after c.loop-t.t (length c.args.order.now) (length c.args.circuit.now.net.gates) (length c.args.circuit.now.net.latches) c.loop-t-test.true (elimination_long c.args.circuit.now.net c.args.order.now c.requires.order) few in
    omega (arith, less)

pub bounds-gates-order : goal.bounds-gates-order
bounds-gates-order g c =
    let net = c.args.circuit.now.net in
    let order = c.args.order.now in
    let is = c.requires.order in
    let gates : c.gates.result.now ≡ net.gates = c.gates.ensures.gates ∙ ap (λ (n : NetList). n.gates) c.net-net.ensures.net in
    let inside = position_inside net order c.loop-t.t (get_or order c.loop-t.t 0) is (slice_get-get_or order c.loop-t.t 0 c.loop-t-test.true) in
    let L : List GateValue → Type 0 = λ gs. (get_or order c.loop-t.t 0) < length gs in
    subst L (sym gates) inside

pub eliminate-requires-clause-gate : goal.eliminate-requires-clause-gate
eliminate-requires-clause-gate g c =
    let net = c.args.circuit.now.net in
    let order = c.args.order.now in
    let is = c.requires.order in
    let gates : c.gates.result.now ≡ net.gates = c.gates.ensures.gates ∙ ap (λ (n : NetList). n.gates) c.net-net.ensures.net in
    let inside = position_inside net order c.loop-t.t (get_or order c.loop-t.t 0) is (slice_get-get_or order c.loop-t.t 0 c.loop-t-test.true) in
    let L : List GateValue → Type 0 = λ gs. (get_or order c.loop-t.t 0) < length gs in
    let S : List GateValue → Type 0 = λ gs. slice_get gs (get_or order c.loop-t.t 0) ≡ Some c.index-gates-order.result in
    ((get_or order c.loop-t.t 0), subst S gates (got_read c.gates.result.now (get_or order c.loop-t.t 0) c.index-gates-order.result (subst L (sym gates) inside) c.index-gates-order.is))

pub returns-in_err-check_size-2-clause-fault : goal.returns-in_err-check_size-2-clause-fault
returns-in_err-check_size-2-clause-fault g c =
    let degree = g.F.Ring.degree c.args.field.now in
    let mul = g.F.Ring.product c.args.field.now in
    let circuit = c.args.circuit.now in
    let basis = elements_of c.args.output.now in
    let order = c.args.order.now in
    let is = c.requires.order in
    let gates : c.gates.result.now ≡ circuit.net.gates = c.gates.ensures.gates ∙ ap (λ (n : NetList). n.gates) c.net-net.ensures.net in
    let N : NetList → Type 0 = λ n. IsSound n in
    let sound = subst N c.net-net.ensures.net c.gates.ensures.sound in
    let at = slice_get-get_or order c.loop-t.t 0 c.loop-t-test.true in
    let L : List GateValue → Type 0 = λ gs. (get_or order c.loop-t.t 0) < length gs in
    let S : List GateValue → Type 0 = λ gs. slice_get gs (get_or order c.loop-t.t 0) ≡ Some c.index-gates-order.result in
    let at_net = subst S gates (got_read c.gates.result.now (get_or order c.loop-t.t 0) c.index-gates-order.result (subst L (sym gates) (position_inside circuit.net order c.loop-t.t (get_or order c.loop-t.t 0) is at)) c.index-gates-order.is) in
    let next = turn degree mul circuit basis order is c.loop-t.t (get_or order c.loop-t.t 0) c.index-gates-order.result c.loop-t.cut.terms c.eliminate.new.cut.terms sound c.net-net.ensures.is_bound at at_net c.loop-t.invariant.is c.in_ok-eliminate.ensures.reduced c.in_ok-eliminate.ensures.values in
    let long : length order ≡ length circuit.net.gates = elimination_long circuit.net order is in
    let fault : IsRefusal degree mul (cut_listing (length circuit.net.gates + 1) (BoundCut circuit basis)) c.args.bound c.in_err-check_size-2.field-0.0 =
    just degree mul (BoundCut circuit basis) c.args.bound (length circuit.net.gates + 1) (c.loop-t.t + 1) c.eliminate.new.cut.terms c.in_err-check_size-2.field-0.0 (omega arith) c.loop-t.invariant.within
    (is_cut degree mul circuit basis order is (c.loop-t.t + 1) c.eliminate.new.cut.terms next) c.in_err-check_size-2.ensures.over.1 c.in_err-check_size-2.ensures.over.0 in
    search rules

pub loop-t-preserved : goal.loop-t-preserved
loop-t-preserved g c =
    let degree = g.F.Ring.degree c.args.field.now in
    let mul = g.F.Ring.product c.args.field.now in
    let circuit = c.args.circuit.now in
    let basis = elements_of c.args.output.now in
    let order = c.args.order.now in
    let is = c.requires.order in
    let gates : c.gates.result.now ≡ circuit.net.gates = c.gates.ensures.gates ∙ ap (λ (n : NetList). n.gates) c.net-net.ensures.net in
    let N : NetList → Type 0 = λ n. IsSound n in
    let sound = subst N c.net-net.ensures.net c.gates.ensures.sound in
    let at = slice_get-get_or order c.loop-t.t 0 c.loop-t-test.true in
    let L : List GateValue → Type 0 = λ gs. (get_or order c.loop-t.t 0) < length gs in
    let S : List GateValue → Type 0 = λ gs. slice_get gs (get_or order c.loop-t.t 0) ≡ Some c.index-gates-order.result in
    let at_net = subst S gates (got_read c.gates.result.now (get_or order c.loop-t.t 0) c.index-gates-order.result (subst L (sym gates) (position_inside circuit.net order c.loop-t.t (get_or order c.loop-t.t 0) is at)) c.index-gates-order.is) in
    let next = turn degree mul circuit basis order is c.loop-t.t (get_or order c.loop-t.t 0) c.index-gates-order.result c.loop-t.cut.terms c.eliminate.new.cut.terms sound c.net-net.ensures.is_bound at at_net c.loop-t.invariant.is c.in_ok-eliminate.ensures.reduced c.in_ok-eliminate.ensures.values in
    let made = c.in_ok-eliminate.ensures.steps in
    record {
      is = next;
      within = one_more degree mul (BoundCut circuit basis) c.args.bound (c.loop-t.t + 1) c.eliminate.new.cut.terms c.loop-t.invariant.within (is_cut degree mul circuit basis order is (c.loop-t.t + 1) c.eliminate.new.cut.terms next) c.in_ok-check_size-2.ensures.within;
      recorded = told_more degree mul circuit basis order is c.loop-t.t (get_or order c.loop-t.t 0) c.index-gates-order.result c.loop-t.cut.terms made.0 (g.T.Steps.steps c.args.steps.now) (g.T.Steps.steps c.loop-t.steps) (g.T.Steps.steps c.eliminate.new.steps) at at_net c.loop-t.invariant.is made.1 c.loop-t.invariant.recorded made.2;
    }

pub returns-clause-last : goal.returns-clause-last
returns-clause-last g c =
    let circuit = c.args.circuit.now in
    let order = c.args.order.now in
    let is = c.requires.order in
    let long : length order ≡ length circuit.net.gates = elimination_long circuit.net order is in
    let done : c.loop-t.t ≡ length circuit.net.gates = omega arith in
    let degree = g.F.Ring.degree c.args.field.now in
    let mul = g.F.Ring.product c.args.field.now in
    let basis = elements_of c.args.output.now in
    let P : ℕ → Type 0 = λ n. IsOfStage degree mul (BoundCut circuit basis n) c.loop-t.cut.terms in
    let Q : Terms → Type 0 = λ ts. IsOfStage degree mul (BoundCut circuit basis (length circuit.net.gates)) ts in
    subst Q (sym c.in_ok-terms.ensures) (subst P done (is_cut degree mul circuit basis order is c.loop-t.t c.loop-t.cut.terms c.loop-t.invariant.is))

pub returns-clause-within : goal.returns-clause-within
returns-clause-within g c =
    let circuit = c.args.circuit.now in
    let order = c.args.order.now in
    let is = c.requires.order in
    let long : length order ≡ length circuit.net.gates = elimination_long circuit.net order is in
    let done : c.loop-t.t ≡ length circuit.net.gates = omega arith in
    let P : ℕ → Type 0 = λ n. IsNoneOver (g.F.Ring.degree c.args.field.now) (g.F.Ring.product c.args.field.now) (BoundCut circuit (elements_of c.args.output.now)) (n + 1) c.args.bound in
    all_within (g.F.Ring.degree c.args.field.now) (g.F.Ring.product c.args.field.now) (BoundCut circuit (elements_of c.args.output.now)) c.args.bound (length circuit.net.gates + 1) (subst P done c.loop-t.invariant.within)

pub returns-clause-steps : goal.returns-clause-steps
returns-clause-steps g c =
    let circuit = c.args.circuit.now in
    let order = c.args.order.now in
    let is = c.requires.order in
    let long : length order ≡ length circuit.net.gates = elimination_long circuit.net order is in
    let done : c.loop-t.t ≡ length circuit.net.gates = omega arith in
    is_recorded (g.F.Ring.degree c.args.field.now) (g.F.Ring.product c.args.field.now) circuit (elements_of c.args.output.now) order is c.loop-t.t (length circuit.net.gates) (g.T.Steps.steps c.args.steps.now) (g.T.Steps.steps c.loop-t.steps) done c.loop-t.invariant.recorded
