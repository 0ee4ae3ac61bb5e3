use Rattle.std.proofs.Common.{◌≡◌, ◌∙◌, ap, sym, arith, Some, None, get_or}
use Rattle.std.specs.Prelude.{slice_get}
use Rattle.std.proofs.lemmas.Option.{slice_get_within}
use Rattle.lists.specs.Lists.{Has}
use Rattle.net_core.specs.GateValue.{GateValue}
use Rattle.net_core.specs.Level.{level_at}
use Rattle.net_core.proofs.LevelLemmas.{position_is, raised_known}
use Rattle.net_core.proofs.levels.give_level.Goals as goal

pub bounds-positions-point : goal.bounds-positions-point
bounds-positions-point c =
    let none : level_at c.args.levels.now.items c.args.point ≡ None = rw (← c.deref.ensures.value) (sym c.known.ensures ∙ c.in-None.is) in
    (position_is c.args.net.now c.args.levels.now.items c.args.positions.now c.args.done c.args.point c.requires.one c.requires.partial c.requires.positions c.requires.point none).0

pub raise-requires-clause-gate : goal.raise-requires-clause-gate
raise-requires-clause-gate c =
    let none : level_at c.args.levels.now.items c.args.point ≡ None = rw (← c.deref.ensures.value) (sym c.known.ensures ∙ c.in-None.is) in
    let at = (position_is c.args.net.now c.args.levels.now.items c.args.positions.now c.args.done c.args.point c.requires.one c.requires.partial c.requires.positions c.requires.point none).1 in
    slice_get_within c.args.net.now.gates (get_or c.args.positions.now c.args.point 0) at.0 at.1

pub raise-requires-clause-none : goal.raise-requires-clause-none
raise-requires-clause-none c = λ g got.
    let none : level_at c.args.levels.now.items c.args.point ≡ None = rw (← c.deref.ensures.value) (sym c.known.ensures ∙ c.in-None.is) in
    let at = (position_is c.args.net.now c.args.levels.now.items c.args.positions.now c.args.done c.args.point c.requires.one c.requires.partial c.requires.positions c.requires.point none).1 in
    let at' : slice_get c.args.net.now.gates (get_or c.args.positions.now c.args.point 0) ≡ Some at.0 = at.1 in
    let whole : at.0 ≡ g = cc in
    ap (λ (h : GateValue). level_at c.args.levels.now.items h.out) (sym whole) ∙ ap (level_at c.args.levels.now.items) at.2 ∙ none

pub returns-in-None-clause-keeps : goal.returns-in-None-clause-keeps
returns-in-None-clause-keeps c =
    let none : level_at c.args.levels.now.items c.args.point ≡ None = rw (← c.deref.ensures.value) (sym c.known.ensures ∙ c.in-None.is) in
    let at = (position_is c.args.net.now c.args.levels.now.items c.args.positions.now c.args.done c.args.point c.requires.one c.requires.partial c.requires.positions c.requires.point none).1 in
    let place : Has c.args.net.now.gates at.0 = (get_or c.args.positions.now c.args.point 0, at.1) in
    (raised_known c.args.levels.now.items c.raise.new.levels.items at.0 c.args.point at.2 (omega (arith, c.requires.point, c.requires.partial.long)) none (c.requires.inputs at.0 place at.2) (λ l over. c.raise.ensures.raised at.0 l at.1 over)).0

pub returns-in-None-clause-known : goal.returns-in-None-clause-known
returns-in-None-clause-known c =
    let none : level_at c.args.levels.now.items c.args.point ≡ None = rw (← c.deref.ensures.value) (sym c.known.ensures ∙ c.in-None.is) in
    let at = (position_is c.args.net.now c.args.levels.now.items c.args.positions.now c.args.done c.args.point c.requires.one c.requires.partial c.requires.positions c.requires.point none).1 in
    let place : Has c.args.net.now.gates at.0 = (get_or c.args.positions.now c.args.point 0, at.1) in
    (raised_known c.args.levels.now.items c.raise.new.levels.items at.0 c.args.point at.2 (omega (arith, c.requires.point, c.requires.partial.long)) none (c.requires.inputs at.0 place at.2) (λ l over. c.raise.ensures.raised at.0 l at.1 over)).1
