use Rattle.std.proofs.Common.{◌≡◌, ◌∙◌, ap, sym, subst, ◌<◌, ◌^◌, length, List, Some, arith}
use Rattle.std.specs.Prelude.{slice_get}
use Rattle.std.proofs.lemmas.Option.{get_or_from_slice_get, slice_get_within}
use Rattle.net_core.specs.GateValue.{GateValue}
use Rattle.net_core.specs.NetList.{NetList}
use Rattle.net_core.specs.Turned.{turned}
use Rattle.net_core.proofs.TurnLemmas.{set_is, turned_inside}
use Rattle.net_core.proofs.maker.NetMaker.turn.Goals as goal

pub invariant_of-self : goal.invariant_of-self
invariant_of-self c =
    let old = c.self.inside in
    let net : NetList = record { labels = old.labels.items; inputs = old.inputs.items; outputs = old.outputs.items; gates = old.gates.items; latches = old.latches.items } in
    let P : NetList → Type 0 = λ n. (g : GateValue) × (slice_get n.gates c.args.position ≡ Some g) × (c.args.index < 2 ^ length g.inputs) in
    let gate : P net = subst P (sym c.self.view_is) c.requires in
    let read = c.index_mut.ensures.value ∙ get_or_from_slice_get old.gates.items c.args.position gate.0 c.index_mut.result.now gate.1 in
    let is = set_is old.gates.items c.args.position c.args.index gate.0 c.index_mut.result.now c.turn.new.self gate.1 read c.turn.ensures in
    (c.self.invariant.0, rw is (turned_inside net c.args.position c.args.index gate.0 gate.1 gate.2 c.self.invariant.1))

pub returns : goal.returns
returns c =
    let old = c.self.inside in
    let net : NetList = record { labels = old.labels.items; inputs = old.inputs.items; outputs = old.outputs.items; gates = old.gates.items; latches = old.latches.items } in
    let P : NetList → Type 0 = λ n. (g : GateValue) × (slice_get n.gates c.args.position ≡ Some g) × (c.args.index < 2 ^ length g.inputs) in
    let gate : P net = subst P (sym c.self.view_is) c.requires in
    let read = c.index_mut.ensures.value ∙ get_or_from_slice_get old.gates.items c.args.position gate.0 c.index_mut.result.now gate.1 in
    let is = set_is old.gates.items c.args.position c.args.index gate.0 c.index_mut.result.now c.turn.new.self gate.1 read c.turn.ensures in
    ap (λ (gates : List GateValue). record net { gates = gates }) is ∙ ap (λ n. turned n c.args.position c.args.index) c.self.view_is

pub index_mut-requires : goal.index_mut-requires
index_mut-requires c =
    let old = c.self.inside in
    let net : NetList = record { labels = old.labels.items; inputs = old.inputs.items; outputs = old.outputs.items; gates = old.gates.items; latches = old.latches.items } in
    let P : NetList → Type 0 = λ n. (g : GateValue) × (slice_get n.gates c.args.position ≡ Some g) × (c.args.index < 2 ^ length g.inputs) in
    let gate : P net = subst P (sym c.self.view_is) c.requires in
    omega (arith, slice_get_within old.gates.items c.args.position gate.0 gate.1)

pub turn-requires : goal.turn-requires
turn-requires c =
    let old = c.self.inside in
    let net : NetList = record { labels = old.labels.items; inputs = old.inputs.items; outputs = old.outputs.items; gates = old.gates.items; latches = old.latches.items } in
    let P : NetList → Type 0 = λ n. (g : GateValue) × (slice_get n.gates c.args.position ≡ Some g) × (c.args.index < 2 ^ length g.inputs) in
    let gate : P net = subst P (sym c.self.view_is) c.requires in
    let read = c.index_mut.ensures.value ∙ get_or_from_slice_get old.gates.items c.args.position gate.0 c.index_mut.result.now gate.1 in
    let R : GateValue → Type 0 = λ g. c.args.index < 2 ^ length g.inputs in
    subst R (sym read) gate.2
