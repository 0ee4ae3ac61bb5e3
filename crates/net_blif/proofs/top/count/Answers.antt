use Rattle.std.proofs.Common.{rules, refl}
use Rattle.net_blif.specs.Top.{is_instance}
use Rattle.net_blif.proofs.StepLemmas.{count_got}
use Rattle.net_blif.proofs.top.count.Goals as goal

pub loop-place-preserved : goal.loop-place-preserved
loop-place-preserved c =
    record {
      few = search rules;
      same = count_got is_instance c.args.items.now c.loop-place.place c.get-item.result _ c.loop-place.count c.counted-count.result _ c.get-item.ensures.item c.loop-place.invariant.same c.counted-count.ensures refl;
    }
