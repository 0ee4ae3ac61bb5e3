use Rattle.net_write.proofs.WriteLemmas.{rows_more}
use Rattle.net_write.proofs.rows.add_rows.Goals as goal

pub loop-index-preserved : goal.loop-index-preserved
loop-index-preserved c = rows_more c.args.out.now.items c.loop-index.out.items _ c.args.inputs c.args.table c.loop-index.index c.loop-index.invariant c.in_ok-add_row_of.ensures
