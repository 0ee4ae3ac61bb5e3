use Rattle.std.proofs.Common.{sym, subst, ◌<◌}
use Rattle.net_core.specs.NetList.{NetList, nets}
use Rattle.net_core.proofs.InsideLemmas.{inside_input}
use Rattle.net_core.proofs.maker.NetMaker.input.Goals as goal

pub invariant_of-self-2 : goal.invariant_of-self-2
invariant_of-self-2 c =
    let old = c.self.inside in
    let net : NetList = record { labels = old.labels.items; inputs = old.inputs.items; outputs = old.outputs.items; gates = old.gates.items; latches = old.latches.items } in
    let P : NetList → Type 0 = λ n. c.args.net < nets n in
    (c.self.invariant.0, inside_input net c.push.new.self.items c.args.net c.in_ok-push.ensures.items (subst P (sym c.self.view_is) c.requires) c.self.invariant.1)
