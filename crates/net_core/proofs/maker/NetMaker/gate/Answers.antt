use Rattle.std.proofs.Common.{◌≡◌, ◌∙◌, ap, sym, subst, arith, [], ◌∷◌, ◌++◌}
use Rattle.net_core.specs.GateValue.{GateValue}
use Rattle.net_core.specs.Inside.{GateIsInside}
use Rattle.net_core.specs.NetList.{NetList, nets}
use Rattle.net_core.proofs.InsideLemmas.{inside_gate}
use Rattle.net_core.proofs.maker.NetMaker.gate.Goals as goal

pub invariant_of-self-2 : goal.invariant_of-self-2
invariant_of-self-2 c =
    let old = c.self.inside in
    let net : NetList = record { labels = old.labels.items; inputs = old.inputs.items; outputs = old.outputs.items; gates = old.gates.items; latches = old.latches.items } in
    let gate : GateValue = record { out = c.args.out; inputs = c.args.inputs.now; table = c.args.table } in
    let P : NetList → Type 0 = λ n. GateIsInside (nets n) gate in
    let made : c.push.new.self.items ≡ old.gates.items ++ gate ∷ [] = c.in_ok-push.ensures.items ∙ ap (λ (g : GateValue). old.gates.items ++ g ∷ []) c.in_ok-gate.ensures in
    let fits : P net = subst P (sym c.self.view_is) (c.requires.out, c.requires.inputs, c.requires.few, c.requires.table) in
    (c.self.invariant.0, inside_gate net c.push.new.self.items gate made fits (omega arith) c.self.invariant.1)
