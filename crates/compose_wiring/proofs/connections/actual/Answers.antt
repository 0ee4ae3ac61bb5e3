use Rattle.std.proofs.Common.{◌≡◌, ◌∙◌, ap, sym, Some, arith}
use Rattle.std.specs.Prelude.{slice_get}
use Rattle.std.proofs.lemmas.Option.{slice_get_within}
use Rattle.net_blif.specs.Table.{Numbers}
use Rattle.compose_wiring.specs.private.Names.{place_from}
use Rattle.compose_wiring.proofs.NamesLemmas.{placed_actual, unplaced_actual}
use Rattle.compose_wiring.proofs.connections.actual.Goals as goal

pub actual_at-requires-clause-place : goal.actual_at-requires-clause-place
actual_at-requires-clause-place c =
    let found : place_from 0 c.args.connections.now c.args.formal.now ≡ Some c.in-Some.place = sym (ap (λ (f : Numbers). f c.args.formal.now) c.requires.table) ∙ sym c.get.ensures ∙ c.in-Some.is in
    let at = placed_actual 0 c.args.connections.now c.args.formal.now c.in-Some.place found in
    omega (arith, at.place, slice_get_within c.args.connections.now at.j at.connection at.at)

pub returns-in-Some-clause-some : goal.returns-in-Some-clause-some
returns-in-Some-clause-some c =
    let found : place_from 0 c.args.connections.now c.args.formal.now ≡ Some c.in-Some.place = sym (ap (λ (f : Numbers). f c.args.formal.now) c.requires.table) ∙ sym c.get.ensures ∙ c.in-Some.is in
    let at = placed_actual 0 c.args.connections.now c.args.formal.now c.in-Some.place found in
    let same : c.in-Some.place ≡ at.j = omega (arith, at.place) in
    at.actual ∙ ap Some (sym (c.actual_at.ensures at.connection (ap (slice_get c.args.connections.now) same ∙ at.at)))

pub returns-in-None-clause-none : goal.returns-in-None-clause-none
returns-in-None-clause-none c = unplaced_actual 0 c.args.connections.now c.args.formal.now (sym (ap (λ (f : Numbers). f c.args.formal.now) c.requires.table) ∙ sym c.get.ensures ∙ c.in-None.is)
