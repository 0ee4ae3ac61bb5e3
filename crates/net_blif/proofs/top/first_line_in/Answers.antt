use Rattle.std.proofs.Common.{rules, ◌≡◌, sym, None, Some}
use Rattle.net_blif.specs.Top.{line_in}
use Rattle.net_blif.proofs.StepLemmas.{got_here, got_later}
use Rattle.net_blif.proofs.top.first_line_in.Goals as goal

pub returns-in-Some : goal.returns-in-Some
returns-in-Some c =
    let some : line_in c.get-item.result ≡ Some c.in-Some.line = search rules in
    sym (got_here line_in c.args.items.now c.loop-place.place c.get-item.result _ c.get-item.ensures.item c.loop-place.invariant c.in-Some.line some)

pub loop-place-preserved : goal.loop-place-preserved
loop-place-preserved c =
    let none : line_in c.get-item.result ≡ None = search rules in
    got_later line_in c.args.items.now c.loop-place.place c.get-item.result _ c.get-item.ensures.item c.loop-place.invariant none
