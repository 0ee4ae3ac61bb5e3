use Rattle.std.proofs.Common.{rules, arith, refl, drop_of_length-le, ◌∙◌, ap, subst, ◌<◌, ◌≤◌, ℕ, List, [], ◌∷◌, ◌++◌, length, map}
use Rattle.std.proofs.lemmas.List.{take_all}
use Rattle.net_blif.specs.Statement.{Token}
use Rattle.net_blif.specs.Connection.{actual_of}
use Rattle.net_flat.specs.Steps.{actual_steps}
use Rattle.net_flat.specs.private.LocalWalk.{local_walked, number_in, HasEach, IsFaultOf}
use Rattle.net_flat.proofs.StateLemmas.{each_more, made_mention, numbers_more, refused_mention}
use Rattle.net_flat.specs.private.WalkerState.{state_of}
use Rattle.net_flat.proofs.walker.Walker.place_actuals.Goals as goal

pub loop-place-init : goal.loop-place-init
loop-place-init c = record { inside = c.requires.inside; walk = refl; numbers = c.clear.ensures.items; found = λ i d less. absurd (omega (arith, less)) }

pub loop-place-preserved : goal.loop-place-preserved
loop-place-preserved c =
    let less : c.loop-place.place < length c.args.connections.now = rw c.len-place-end.ensures at c.loop-place-test.true in
    record {
      inside = c.in_ok-number.ensures.inside;
      walk = made_mention actual_of c.args.connections.now c.loop-place.place c.get.result.now [] (state_of c.loop-place.self) (state_of c.place_actual.new.self) _ less c.get.ensures c.loop-place.invariant.walk c.in_ok-number.ensures.made;
      numbers = numbers_more actual_of c.args.connections.now c.loop-place.place c.get.result.now [] (state_of c.loop-place.self) (state_of c.place_actual.new.self) c.in_ok-number.number less c.get.ensures c.in_ok-number.ensures.made c.in_ok-number.ensures.number c.loop-place.invariant.found c.loop-place.self.inputs.items c.push.new.self.items c.loop-place.invariant.numbers (c.in_ok-push.ensures.items ∙ ap (λ (ns : List ℕ). ns ++ c.in_ok-number.number ∷ []) c.place_actual.ensures.kept);
      found = each_more actual_of c.args.connections.now c.loop-place.place c.get.result.now [] (state_of c.loop-place.self) (state_of c.place_actual.new.self) c.in_ok-number.number less c.get.ensures c.in_ok-number.ensures.made c.in_ok-number.ensures.number c.loop-place.invariant.found;
    }

pub returns-in_err-number-clause-fault : goal.returns-in_err-number-clause-fault
returns-in_err-number-clause-fault c =
    let less : c.loop-place.place < length c.args.connections.now = rw c.len-place-end.ensures at c.loop-place-test.true in
    let fault : IsFaultOf (local_walked (state_of c.args.self.now) (actual_steps c.args.connections.now)) c.in_err-number.field-0.0 = refused_mention actual_of c.args.connections.now c.loop-place.place c.get.result.now [] (state_of c.loop-place.self) _ c.in_err-number.field-0.0 less c.get.ensures c.loop-place.invariant.walk c.in_err-number.ensures.fault in
    search rules

pub returns-clause-numbers : goal.returns-clause-numbers
returns-clause-numbers c =
    let past : length c.args.connections.now ≤ c.loop-place.place = rw c.len-place-end.ensures at c.loop-place-test.false in
    c.loop-place.invariant.numbers ∙ ap (λ (xs : List Token). map (number_in (state_of c.loop-place.self)) xs) (ap (map actual_of) (take_all c.loop-place.place c.args.connections.now past))

pub returns-clause-found : goal.returns-clause-found
returns-clause-found c =
    let past : length c.args.connections.now ≤ c.loop-place.place = rw c.len-place-end.ensures at c.loop-place-test.false in
    let P : List Token → Type 0 = HasEach (state_of c.loop-place.self) in
    subst P (ap (map actual_of) (take_all c.loop-place.place c.args.connections.now past)) c.loop-place.invariant.found

pub returns-clause-made : goal.returns-clause-made
returns-clause-made c =
    let past : length c.args.connections.now ≤ c.loop-place.place = rw c.len-place-end.ensures at c.loop-place-test.false in
    c.loop-place.invariant.walk ∙ ap (λ (xs : List Token). local_walked (state_of c.loop-place.self) (actual_steps xs)) (drop_of_length-le c.args.connections.now past)
