use Rattle.std.proofs.Common.{subst, ◌<◌}
use Rattle.std.specs.Prelude.{IfSome}
use Rattle.net_core.specs.NetList.{NetList, nets}
use Rattle.net_core.proofs.NameLemmas.{some_below}
use Rattle.net_core.proofs.PlaceLemmas.{found_inside}
use Rattle.net_core.proofs.maker.NetMaker.find.Goals as goal

pub find-requires-clause-found : goal.find-requires-clause-found
find-requires-clause-found c = rw c.deref.ensures.value (found_inside _ c.self.invariant.1)

pub returns-clause-within : goal.returns-clause-within
returns-clause-within c =
    let old = c.self.inside in
    let net : NetList = record { labels = old.labels.items; inputs = old.inputs.items; outputs = old.outputs.items; gates = old.gates.items; latches = old.latches.items } in
    let P : NetList → Type 0 = λ n. IfSome c.find.result (λ k. k < nets n) in
    subst P c.self.view_is (some_below net c.args.name.now c.find.result (rw (← c.deref.ensures.value) c.find.ensures))
