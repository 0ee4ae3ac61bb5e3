use Rattle.std.proofs.Common.{rules, ◌≡◌, ◌∙◌, ap, ◌∷◌, [], map}
use Rattle.std.proofs.lemmas.Result.{IfErr-weaker, on_ok_weaker}
use Rattle.net_core.specs.NetList.{NetList}
use Rattle.net_flat.specs.Steps.{gate_steps, Mention, Gate}
use Rattle.net_flat.specs.private.LocalWalk.{local_walked, number_in, IsFaultOf}
use Rattle.net_flat.proofs.StateLemmas.{found_inside, gate_made, gate_numbers, gate_out_refused, gate_refused, inside_as, refused_front}
use Rattle.net_flat.specs.private.WalkerState.{state_of}
use Rattle.net_flat.specs.private.Stopping.{IsFaultOfGate}
use Rattle.net_flat.specs.declared.flat_fault.FlatFault.{FlatFault}
use Rattle.net_flat.proofs.walker.Walker.place_gate.Goals as goal

pub returns-in_err-mention_all-clause-fault : goal.returns-in_err-mention_all-clause-fault
returns-in_err-mention_all-clause-fault c =
    let fault : IsFaultOf (local_walked (state_of c.args.self.now) (gate_steps c.args.inputs.now c.args.out.now c.args.table)) c.in_err-mention_all.field-0.0 = refused_front (state_of c.args.self.now) c.in_err-mention_all.field-0.0 (map Mention c.args.inputs.now) (Mention c.args.out.now ∷ Gate c.args.inputs.now c.args.out.now c.args.table ∷ []) c.in_err-mention_all.ensures.fault in
    search rules

pub returns-in_err-number-clause-fault : goal.returns-in_err-number-clause-fault
returns-in_err-number-clause-fault c =
    let fault : IsFaultOf (local_walked (state_of c.args.self.now) (gate_steps c.args.inputs.now c.args.out.now c.args.table)) c.in_err-number.field-0.0 = gate_out_refused (state_of c.args.self.now) (state_of c.mention_all.new.self) (state_of c.mention_all.new.self) c.args.inputs.now c.args.out.now c.args.table c.in_ok-mention_all.ensures.made c.in_err-number.field-0.0 c.in_err-number.ensures.fault in
    search rules

pub gate-requires-clause-out : goal.gate-requires-clause-out
gate-requires-clause-out c = found_inside (state_of c.mention.new.self) c.args.out.now c.in_ok-number.number c.in_ok-number.ensures.inside c.in_ok-number.ensures.number

pub gate-requires-clause-inputs : goal.gate-requires-clause-inputs
gate-requires-clause-inputs c =
    let are : c.as_slice.result.now ≡ map (number_in (state_of c.mention_all.new.self)) c.args.inputs.now = c.as_slice.ensures.value ∙ (c.mention.ensures.kept ∙ c.in_ok-mention_all.ensures.numbers) in
    (gate_numbers (state_of c.mention_all.new.self) (state_of c.mention.new.self) c.args.inputs.now c.args.out.now c.as_slice.result.now c.in_ok-number.ensures.made c.in_ok-number.ensures.inside c.in_ok-mention_all.ensures.found are).1

pub returns-clause-made : goal.returns-clause-made
returns-clause-made c =
    let are : c.as_slice.result.now ≡ map (number_in (state_of c.mention_all.new.self)) c.args.inputs.now = c.as_slice.ensures.value ∙ (c.mention.ensures.kept ∙ c.in_ok-mention_all.ensures.numbers) in
    let h = gate_numbers (state_of c.mention_all.new.self) (state_of c.mention.new.self) c.args.inputs.now c.args.out.now c.as_slice.result.now c.in_ok-number.ensures.made c.in_ok-number.ensures.inside c.in_ok-mention_all.ensures.found are in
    on_ok_weaker c.gate.result (λ is. gate_made (state_of c.args.self.now) (state_of c.mention_all.new.self) (state_of c.mention.new.self) c.args.inputs.now c.args.out.now c.args.table c.in_ok-mention_all.ensures.made c.in_ok-number.ensures.made c.as_slice.result.now c.in_ok-number.number c.gate.new.self h.0 c.in_ok-number.ensures.number is.0 is.1) c.gate.ensures.made

pub returns-clause-inside : goal.returns-clause-inside
returns-clause-inside c = on_ok_weaker c.gate.result (λ is. inside_as (state_of c.mention.new.self) c.gate.new.self (ap (λ (n : NetList). n.labels) is.0) c.in_ok-number.ensures.inside) c.gate.ensures.made

pub returns-clause-fault : goal.returns-clause-fault
returns-clause-fault c =
    IfErr-weaker c.gate.result _ _ (λ (stop : FlatFault) (is : IsFaultOfGate (state_of c.mention.new.self).net stop). gate_refused (state_of c.args.self.now) (state_of c.mention_all.new.self) (state_of c.mention.new.self) c.args.inputs.now c.args.out.now c.args.table c.in_ok-mention_all.ensures.made c.in_ok-number.ensures.made is.refusal stop is.is is.only is.full) c.gate.ensures.fault
