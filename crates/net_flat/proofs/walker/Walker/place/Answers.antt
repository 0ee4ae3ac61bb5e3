use Rattle.std.proofs.Common.{◌≡◌, ◌∙◌, ap, sym, subst, List, Ok}
use Rattle.std.specs.Prelude.{IfErr, OnOk}
use Rattle.net_blif.specs.Statement.{Token}
use Rattle.net_blif.specs.declared.item.Item.{Item}
use Rattle.net_flat.specs.Steps.{gate_steps, latch_steps, steps_of, Step}
use Rattle.net_flat.specs.private.LocalWalk.{is_in_top, local_walked, IsFaultOf}
use Rattle.net_flat.specs.private.WalkerState.{state_of}
use Rattle.net_flat.proofs.walker.Walker.place.Goals as goal

pub returns-in-Inputs-clause-made : goal.returns-in-Inputs-clause-made
returns-in-Inputs-clause-made c =
    let P : Item → Type 0 = λ i. OnOk c.place_inputs.result (local_walked (state_of c.args.self.now) (steps_of (is_in_top (state_of c.args.self.now).local) i) ≡ Ok (state_of c.place_inputs.new.self)) in
    subst P (sym c.in-Inputs.is) c.place_inputs.ensures.made

pub returns-in-Inputs-clause-fault : goal.returns-in-Inputs-clause-fault
returns-in-Inputs-clause-fault c =
    let P : Item → Type 0 = λ i. IfErr c.place_inputs.result (IsFaultOf (local_walked (state_of c.args.self.now) (steps_of (is_in_top (state_of c.args.self.now).local) i))) in
    subst P (sym c.in-Inputs.is) c.place_inputs.ensures.fault

pub returns-in-Outputs-clause-made : goal.returns-in-Outputs-clause-made
returns-in-Outputs-clause-made c =
    let P : Item → Type 0 = λ i. OnOk c.place_outputs.result (local_walked (state_of c.args.self.now) (steps_of (is_in_top (state_of c.args.self.now).local) i) ≡ Ok (state_of c.place_outputs.new.self)) in
    subst P (sym c.in-Outputs.is) c.place_outputs.ensures.made

pub returns-in-Outputs-clause-fault : goal.returns-in-Outputs-clause-fault
returns-in-Outputs-clause-fault c =
    let P : Item → Type 0 = λ i. IfErr c.place_outputs.result (IsFaultOf (local_walked (state_of c.args.self.now) (steps_of (is_in_top (state_of c.args.self.now).local) i))) in
    subst P (sym c.in-Outputs.is) c.place_outputs.ensures.fault

pub returns-in-Instance-clause-made : goal.returns-in-Instance-clause-made
returns-in-Instance-clause-made c =
    let P : Item → Type 0 = λ i. OnOk c.place_instance.result (local_walked (state_of c.args.self.now) (steps_of (is_in_top (state_of c.args.self.now).local) i) ≡ Ok (state_of c.place_instance.new.self)) in
    subst P (sym c.in-Instance.is) c.place_instance.ensures.made

pub returns-in-Instance-clause-fault : goal.returns-in-Instance-clause-fault
returns-in-Instance-clause-fault c =
    let P : Item → Type 0 = λ i. IfErr c.place_instance.result (IsFaultOf (local_walked (state_of c.args.self.now) (steps_of (is_in_top (state_of c.args.self.now).local) i))) in
    subst P (sym c.in-Instance.is) c.place_instance.ensures.fault

pub returns-in-Gate-clause-made : goal.returns-in-Gate-clause-made
returns-in-Gate-clause-made c =
    let P : List (Step Token) → Type 0 = λ steps. OnOk c.place_gate.result (local_walked (state_of c.args.self.now) steps ≡ Ok (state_of c.place_gate.new.self)) in
    let driven = ap (λ (n : Token). gate_steps c.in-Gate.inputs n c.in-Gate.table) c.bytes.ensures in
    let is = ap (λ (i : Item). steps_of (is_in_top (state_of c.args.self.now).local) i) c.in-Gate.is in
    subst P (driven ∙ sym is) c.place_gate.ensures.made

pub returns-in-Gate-clause-fault : goal.returns-in-Gate-clause-fault
returns-in-Gate-clause-fault c =
    let P : List (Step Token) → Type 0 = λ steps. IfErr c.place_gate.result (IsFaultOf (local_walked (state_of c.args.self.now) steps)) in
    let driven = ap (λ (n : Token). gate_steps c.in-Gate.inputs n c.in-Gate.table) c.bytes.ensures in
    let is = ap (λ (i : Item). steps_of (is_in_top (state_of c.args.self.now).local) i) c.in-Gate.is in
    subst P (driven ∙ sym is) c.place_gate.ensures.fault

pub returns-in-Latch-clause-made : goal.returns-in-Latch-clause-made
returns-in-Latch-clause-made c =
    let P : List (Step Token) → Type 0 = λ steps. OnOk c.place_latch.result (local_walked (state_of c.args.self.now) steps ≡ Ok (state_of c.place_latch.new.self)) in
    let read = ap (λ (n : Token). latch_steps n c.bytes-in-Latch-2.result.now c.in-Latch.start) c.bytes-in-Latch.ensures in
    let driven = ap (λ (n : Token). latch_steps c.in-Latch.next n c.in-Latch.start) c.bytes-in-Latch-2.ensures in
    let is = ap (λ (i : Item). steps_of (is_in_top (state_of c.args.self.now).local) i) c.in-Latch.is in
    subst P (read ∙ (driven ∙ sym is)) c.place_latch.ensures.made

pub returns-in-Latch-clause-fault : goal.returns-in-Latch-clause-fault
returns-in-Latch-clause-fault c =
    let P : List (Step Token) → Type 0 = λ steps. IfErr c.place_latch.result (IsFaultOf (local_walked (state_of c.args.self.now) steps)) in
    let read = ap (λ (n : Token). latch_steps n c.bytes-in-Latch-2.result.now c.in-Latch.start) c.bytes-in-Latch.ensures in
    let driven = ap (λ (n : Token). latch_steps c.in-Latch.next n c.in-Latch.start) c.bytes-in-Latch-2.ensures in
    let is = ap (λ (i : Item). steps_of (is_in_top (state_of c.args.self.now).local) i) c.in-Latch.is in
    subst P (read ∙ (driven ∙ sym is)) c.place_latch.ensures.fault
