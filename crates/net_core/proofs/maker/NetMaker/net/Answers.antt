use Rattle.std.proofs.Common.{◌≡◌, ◌∙◌, ap, sym, arith, true, None, Some, nat_eq, List, length, ℕ}
use Rattle.indexmap.specs.IndexMap.{get}
use Rattle.net_core.specs.NetList.{NetList, nets, number_from}
use Rattle.net_core.specs.private.NameHash.{hash_of}
use Rattle.net_core.proofs.NameLemmas.{one_longer, named_found, inside_named, some_below}
use Rattle.net_core.proofs.PlaceLemmas.{found_inside, placed_more}
use Rattle.net_core.proofs.maker.NetMaker.net.Goals as goal

pub place-requires-clause-found : goal.place-requires-clause-found
place-requires-clause-found c = rw c.deref.ensures.value (found_inside _ c.self.invariant.1)

pub returns-in-Some-clause-within : goal.returns-in-Some-clause-within
returns-in-Some-clause-within c =
    let old = c.self.inside in
    let net : NetList = record { labels = old.labels.items; inputs = old.inputs.items; outputs = old.outputs.items; gates = old.gates.items; latches = old.latches.items } in
    some_below net c.args.name.now (Some c.in-Some.number) (rw (← c.deref.ensures.value) (sym c.in-Some.is ∙ c.in_ok-number.ensures.number))

pub invariant_of-self-in-None : goal.invariant_of-self-in-None
invariant_of-self-in-None c =
    let old = c.self.inside in
    let net : NetList = record { labels = old.labels.items; inputs = old.inputs.items; outputs = old.outputs.items; gates = old.gates.items; latches = old.latches.items } in
    let none : number_from 0 old.labels.items c.args.name.now ≡ None = rw (← c.deref.ensures.value) (sym c.in_ok-number.ensures.number ∙ c.in-None.is) in
    let places = c.place.new.self in
    let placed : (name : List ℕ) → get nat_eq places.first (hash_of places.hash name) ≡ None → number_from 0 old.labels.items name ≡ None = λ name no-key. rw (← c.deref.ensures.value) (c.in_ok-number.ensures.placed name no-key) in (
      placed_more (hash_of places.hash) (get nat_eq places.first) old.labels.items c.add_net.new.labels.items c.args.name.now c.in_ok-number-in-None.ensures.made c.in_ok-number.ensures.place placed,
      inside_named net c.add_net.new.labels.items c.args.name.now c.in_ok-number-in-None.ensures.made (omega arith) c.requires none c.self.invariant.1,
    )

pub returns-in_ok-number-in-None-clause-number : goal.returns-in_ok-number-in-None-clause-number
returns-in_ok-number-in-None-clause-number c =
    let none : number_from 0 c.self.inside.labels.items c.args.name.now ≡ None = rw (← c.deref.ensures.value) (sym c.in_ok-number.ensures.number ∙ c.in-None.is) in
    named_found c.self.inside.labels.items c.add_net.new.labels.items c.args.name.now c.in_ok-number-in-None.number c.in_ok-number-in-None.ensures.made c.in_ok-number-in-None.ensures.number none

pub returns-in_ok-number-in-None-clause-within : goal.returns-in_ok-number-in-None-clause-within
returns-in_ok-number-in-None-clause-within c = omega (arith, one_longer c.self.inside.labels.items c.add_net.new.labels.items (record { text = c.args.name.now; named = true }) c.in_ok-number-in-None.ensures.made, c.in_ok-number-in-None.ensures.number)

pub returns-in_ok-number-in-None-clause-grows : goal.returns-in_ok-number-in-None-clause-grows
returns-in_ok-number-in-None-clause-grows c =
    let before : length c.self.inside.labels.items ≡ nets c.args.self.now = ap nets c.self.view_is in
    omega (arith, one_longer c.self.inside.labels.items c.add_net.new.labels.items (record { text = c.args.name.now; named = true }) c.in_ok-number-in-None.ensures.made, before)
