use Rattle.net_write.proofs.WriteLemmas.{pattern_pushed}
use Rattle.net_write.proofs.rows.add_pattern.Goals as goal

pub loop-i-preserved : goal.loop-i-preserved
loop-i-preserved c = pattern_pushed c.args.out.now.items c.loop-i.out.items _ c.loop-i.i c.args.index c.cell.result c.loop-i.invariant c.cell.ensures c.in_ok-push.ensures.items
