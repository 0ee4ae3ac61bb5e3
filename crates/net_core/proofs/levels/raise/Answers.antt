use Rattle.std.proofs.Common.{◌≡◌, ◌∙◌, sym, Some}
use Rattle.std.specs.Prelude.{slice_get}
use Rattle.lists.specs.laws.ReadLaws.{got_read}
use Rattle.net_core.specs.GateValue.{GateValue}
use Rattle.net_core.specs.Level.{level_over}
use Rattle.net_core.proofs.LevelLemmas.{partial_set, raised_set}
use Rattle.net_core.proofs.levels.raise.Goals as goal

pub returns-in-Some-clause-partial : goal.returns-in-Some-clause-partial
returns-in-Some-clause-partial c =
    let g : GateValue = c.index-gates-position.result in
    let gate : slice_get c.args.net.now.gates c.args.position ≡ Some g = got_read c.args.net.now.gates c.args.position g c.requires.gate (rw c.gates.ensures.gates at c.index-gates-position.is) in
    let over : level_over c.args.levels.now.items g.inputs ≡ Some c.in-Some.level = rw (← c.deref.ensures.value, ← c.inputs.ensures.inputs) (sym c.level_over.ensures ∙ c.in-Some.is) in
    rw c.out.ensures (partial_set c.args.net.now c.args.levels.now.items c.args.done c.args.position c.in-Some.level g c.gates.ensures.inside c.requires.one c.requires.partial gate (c.requires.none g gate) over)

pub returns-in-Some-clause-raised : goal.returns-in-Some-clause-raised
returns-in-Some-clause-raised c =
    let g : GateValue = c.index-gates-position.result in
    let gate : slice_get c.args.net.now.gates c.args.position ≡ Some g = got_read c.args.net.now.gates c.args.position g c.requires.gate (rw c.gates.ensures.gates at c.index-gates-position.is) in
    let over : level_over c.args.levels.now.items g.inputs ≡ Some c.in-Some.level = rw (← c.deref.ensures.value, ← c.inputs.ensures.inputs) (sym c.level_over.ensures ∙ c.in-Some.is) in
    raised_set c.args.net.now c.args.levels.now.items c.args.position c.in-Some.level g c.out.result gate over c.out.ensures
