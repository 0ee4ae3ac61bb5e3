use Rattle.std.proofs.Common.{rules, ◌≡◌, ◌∙◌, ◌<◌, ◌≤◌, [], ap, drop_of_length-le, length, subst, Bool, List, Ok}
use Rattle.std.specs.Prelude.{flat_map}
use Rattle.net_blif.specs.Statement.{Token}
use Rattle.net_flat.specs.Steps.{input_steps}
use Rattle.net_flat.specs.private.LocalWalk.{is_in_top, local_walked, IsFaultOf}
use Rattle.net_flat.proofs.StateLemmas.{made_element, refused_element}
use Rattle.net_flat.specs.private.WalkerState.{state_of}
use Rattle.net_flat.proofs.walker.Walker.place_inputs.Goals as goal

pub loop-place-preserved : goal.loop-place-preserved
loop-place-preserved c =
    let less : c.loop-place.place < length c.args.names.now = rw c.len-place-end.ensures at c.loop-place-test.true in
    let P : Bool → Type 0 = λ b. local_walked (state_of c.loop-place.self) (input_steps b c.get.result.now) ≡ Ok (state_of c.place_input.new.self) in
    record {
      top = c.place_input.ensures.top ∙ c.loop-place.invariant.top;
      inside = c.in_ok-place_input.ensures.inside;
      walk = made_element (input_steps (is_in_top (state_of c.args.self.now).local)) c.args.names.now c.loop-place.place c.get.result.now [] (state_of c.loop-place.self) (state_of c.place_input.new.self) _ less c.get.ensures c.loop-place.invariant.walk (subst P c.loop-place.invariant.top c.in_ok-place_input.ensures.made);
    }

pub returns-in_err-place_input-clause-fault : goal.returns-in_err-place_input-clause-fault
returns-in_err-place_input-clause-fault c =
    let less : c.loop-place.place < length c.args.names.now = rw c.len-place-end.ensures at c.loop-place-test.true in
    let P : Bool → Type 0 = λ b. IsFaultOf (local_walked (state_of c.loop-place.self) (input_steps b c.get.result.now)) c.in_err-place_input.field-0.0 in
    let fault : IsFaultOf (local_walked (state_of c.args.self.now) (flat_map (input_steps (is_in_top (state_of c.args.self.now).local)) c.args.names.now)) c.in_err-place_input.field-0.0 = refused_element (input_steps (is_in_top (state_of c.args.self.now).local)) c.args.names.now c.loop-place.place c.get.result.now [] (state_of c.loop-place.self) _ c.in_err-place_input.field-0.0 less c.get.ensures c.loop-place.invariant.walk (subst P c.loop-place.invariant.top c.in_err-place_input.ensures.fault) in
    search rules

pub returns-clause-made : goal.returns-clause-made
returns-clause-made c =
    let past : length c.args.names.now ≤ c.loop-place.place = rw c.len-place-end.ensures at c.loop-place-test.false in
    c.loop-place.invariant.walk ∙ ap (λ (xs : List Token). local_walked (state_of c.loop-place.self) (flat_map (input_steps (is_in_top (state_of c.args.self.now).local)) xs)) (drop_of_length-le c.args.names.now past)
