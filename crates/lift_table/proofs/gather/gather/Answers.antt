use Rattle.std.proofs.Common.{◌+◌, ◌*◌}
use Rattle.lift_table.proofs.GatherLemmas.{pushed_long, pushed_at}
use Rattle.lift_table.proofs.gather.gather.Goals as goal

pub loop-i-preserved : goal.loop-i-preserved
loop-i-preserved c =
    let inv = c.loop-i.invariant in
    record {
      long = pushed_long c.loop-i.part.items c.push.new.self.items _ c.loop-i.i c.in_ok-push.ensures.items inv.long;
      at = pushed_at (λ j. j * c.args.distance + c.args.place) c.args.list.now c.loop-i.part.items c.push.new.self.items c.loop-i.i c.in_ok-push.ensures.items inv.long inv.at;
    }
