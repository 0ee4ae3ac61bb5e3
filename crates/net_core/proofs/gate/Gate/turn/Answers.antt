use Rattle.std.proofs.Common.{refl, sym, subst, ◌<◌, ◌^◌, length}
use Rattle.net_core.specs.GateValue.{GateValue}
use Rattle.net_core.proofs.TurnLemmas.{turned_fits}
use Rattle.net_core.proofs.gate.Gate.turn.Goals as goal

pub invariant_of-self : goal.invariant_of-self
invariant_of-self c =
    let P : GateValue → Type 0 = λ g. c.args.index < 2 ^ length g.inputs in
    let less : c.args.index < 2 ^ length c.self.inside.inputs.items = subst P (sym c.self.view_is) c.requires in
    (c.self.invariant.0, rw c.table_bit-bit.ensures (turned_fits (length c.self.inside.inputs.items) c.self.inside.table c.args.index c.self.invariant.1 less))

pub returns : goal.returns
returns c = rw (← c.self.view_is, c.table_bit-bit.ensures) refl
