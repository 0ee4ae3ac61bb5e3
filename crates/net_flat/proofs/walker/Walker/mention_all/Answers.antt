use Rattle.std.proofs.Common.{rules, arith, refl, drop_of_length-le, ◌∙◌, ap, subst, ◌<◌, ◌≤◌, ℕ, List, [], ◌∷◌, ◌++◌, length, map}
use Rattle.std.proofs.lemmas.List.{take_all}
use Rattle.net_blif.specs.Statement.{Token}
use Rattle.net_flat.specs.Steps.{Mention}
use Rattle.net_flat.specs.private.LocalWalk.{local_walked, number_in, HasEach, IsFaultOf}
use Rattle.net_flat.proofs.StateLemmas.{each_more, made_mention, map_same, numbers_more, refused_mention}
use Rattle.net_flat.specs.private.WalkerState.{state_of}
use Rattle.net_flat.proofs.walker.Walker.mention_all.Goals as goal

pub loop-place-init : goal.loop-place-init
loop-place-init c = record { inside = c.requires.inside; walk = refl; numbers = c.clear.ensures.items; found = λ i d less. absurd (omega (arith, less)) }

pub loop-place-preserved : goal.loop-place-preserved
loop-place-preserved c =
    let less : c.loop-place.place < length c.args.names.now = rw c.len-place-end.ensures at c.loop-place-test.true in
    record {
      inside = c.in_ok-number.ensures.inside;
      walk = made_mention (λ name. name) c.args.names.now c.loop-place.place c.get.result.now [] (state_of c.loop-place.self) (state_of c.mention.new.self) _ less c.get.ensures c.loop-place.invariant.walk c.in_ok-number.ensures.made;
      numbers = numbers_more (λ name. name) c.args.names.now c.loop-place.place c.get.result.now [] (state_of c.loop-place.self) (state_of c.mention.new.self) c.in_ok-number.number less c.get.ensures c.in_ok-number.ensures.made c.in_ok-number.ensures.number c.loop-place.invariant.found c.loop-place.self.inputs.items c.push.new.self.items c.loop-place.invariant.numbers (c.in_ok-push.ensures.items ∙ ap (λ (ns : List ℕ). ns ++ c.in_ok-number.number ∷ []) c.mention.ensures.kept);
      found = each_more (λ name. name) c.args.names.now c.loop-place.place c.get.result.now [] (state_of c.loop-place.self) (state_of c.mention.new.self) c.in_ok-number.number less c.get.ensures c.in_ok-number.ensures.made c.in_ok-number.ensures.number c.loop-place.invariant.found;
    }

pub returns-in_err-number-clause-fault : goal.returns-in_err-number-clause-fault
returns-in_err-number-clause-fault c =
    let less : c.loop-place.place < length c.args.names.now = rw c.len-place-end.ensures at c.loop-place-test.true in
    let fault : IsFaultOf (local_walked (state_of c.args.self.now) (map Mention c.args.names.now)) c.in_err-number.field-0.0 = refused_mention (λ name. name) c.args.names.now c.loop-place.place c.get.result.now [] (state_of c.loop-place.self) _ c.in_err-number.field-0.0 less c.get.ensures c.loop-place.invariant.walk c.in_err-number.ensures.fault in
    search rules

pub returns-clause-numbers : goal.returns-clause-numbers
returns-clause-numbers c =
    let past : length c.args.names.now ≤ c.loop-place.place = rw c.len-place-end.ensures at c.loop-place-test.false in
    c.loop-place.invariant.numbers ∙ ap (λ (xs : List Token). map (number_in (state_of c.loop-place.self)) xs) (ap (map (λ name. name)) (take_all c.loop-place.place c.args.names.now past) ∙ map_same c.args.names.now)

pub returns-clause-found : goal.returns-clause-found
returns-clause-found c =
    let past : length c.args.names.now ≤ c.loop-place.place = rw c.len-place-end.ensures at c.loop-place-test.false in
    let P : List Token → Type 0 = HasEach (state_of c.loop-place.self) in
    subst P (ap (map (λ name. name)) (take_all c.loop-place.place c.args.names.now past) ∙ map_same c.args.names.now) c.loop-place.invariant.found

pub returns-clause-made : goal.returns-clause-made
returns-clause-made c =
    let past : length c.args.names.now ≤ c.loop-place.place = rw c.len-place-end.ensures at c.loop-place-test.false in
    c.loop-place.invariant.walk ∙ ap (λ (xs : List Token). local_walked (state_of c.loop-place.self) (map Mention xs)) (drop_of_length-le c.args.names.now past)
