use Rattle.std.proofs.Common.{rules, ◌≡◌, ◌<◌, [], length, None}
use Rattle.net_blif.specs.Top.{actual_at}
use Rattle.net_blif.proofs.StepLemmas.{found_here, found_later}
use Rattle.net_blif.proofs.top.actual_among.Goals as goal

pub returns-in-Some-clause-some : goal.returns-in-Some-clause-some
returns-in-Some-clause-some c =
    let less : c.loop-place.place < length c.args.connections.now = rw c.len-place-end.ensures at c.loop-place-test.true in
    found_here (actual_at c.args.formal.now) c.args.connections.now c.loop-place.place c.get.result.now [] _ less c.get.ensures c.loop-place.invariant c.in-Some.actual.now c.in-Some.ensures.some

pub loop-place-preserved : goal.loop-place-preserved
loop-place-preserved c =
    let less : c.loop-place.place < length c.args.connections.now = rw c.len-place-end.ensures at c.loop-place-test.true in
    let none : actual_at c.args.formal.now c.get.result.now ≡ None = search rules in
    found_later (actual_at c.args.formal.now) c.args.connections.now c.loop-place.place c.get.result.now [] _ less c.get.ensures c.loop-place.invariant none
