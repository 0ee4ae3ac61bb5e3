use Rattle.std.proofs.Common.{◌≡◌, ◌<◌, ◌-◌, ◌+◌, ◌∙◌, ap, sym, [], length, Some, arith}
use Rattle.std.proofs.lemmas.Option.{slice_get-get_or}
use Rattle.net_blif.specs.Table.{numbers_in}
use Rattle.compose_wiring.proofs.StepLemmas.{no_place, place_before}
use Rattle.compose_wiring.proofs.connections.places.Goals as goal

pub loop-place-init : goal.loop-place-init
loop-place-init c = c.new-table.ensures ∙ no_place c.args.connections.now c.in-Ok.count (omega (arith, c.len.ensures, c.in-Ok.ensures))

pub loop-place-preserved : goal.loop-place-preserved
loop-place-preserved c =
    let after : c.loop-place.place ≡ (c.loop-place.place - 1) + 1 = omega (arith, c.loop-place-test.true) in
    let less : c.loop-place.place - 1 < length c.args.connections.now = omega (arith, c.loop-place-test.true, c.loop-place.auto.place, c.len.ensures, c.in-Ok.ensures) in
    place_before c.args.connections.now c.loop-place.place (c.loop-place.place - 1) c.get.result.now c.text_of.result.now (numbers_in c.loop-place.table) (numbers_in c.insert.new.self) after
    (slice_get-get_or c.args.connections.now (c.loop-place.place - 1) [] less ∙ ap Some (sym c.get.ensures)) c.loop-place.invariant c.in_ok-insert.ensures (c.text_of.ensures ∙ c.sides.ensures.formal)
