use Rattle.std.proofs.Common.{rules, ◌≡◌, ◌<◌, true}
use Rattle.net_blif.specs.Top.{is_instance}
use Rattle.net_blif.proofs.StepLemmas.{fewer_later, passing_here, passing_later}
use Rattle.net_blif.proofs.top.instance_at.Goals as goal

pub loop-place-preserved : goal.loop-place-preserved
loop-place-preserved c =
    let some : is_instance c.get-item.result ≡ true → 0 < c.loop-place.left = search rules in
    record {
      same = passing_later is_instance c.args.items.now c.loop-place.place c.loop-place.left c.get-item.result _ c.get-item.ensures.item c.loop-place.invariant.same c.left_after-left.result some c.left_after-left.ensures;
      less = fewer_later is_instance c.args.items.now c.loop-place.place c.loop-place.left c.get-item.result _ c.get-item.ensures.item c.loop-place.invariant.same c.left_after-left.result c.loop-place.invariant.less some c.left_after-left.ensures;
    }

pub returns-then-is_instance-clause-item : goal.returns-then-is_instance-clause-item
returns-then-is_instance-clause-item c =
    let none : c.loop-place.left ≡ 0 = search rules in
    let passes : is_instance c.get-item.result ≡ true = search rules in
    passing_here is_instance c.args.items.now c.loop-place.place c.loop-place.left c.get-item.result _ c.get-item.ensures.item c.loop-place.invariant.same none passes
