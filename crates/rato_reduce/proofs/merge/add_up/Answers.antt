use Rattle.std.proofs.Common.{◌∙◌}
use Rattle.rato_reduce.proofs.RowLemmas.{added_more}
use Rattle.rato_reduce.proofs.merge.add_up.Goals as goal

pub loop-i-preserved : goal.loop-i-preserved
loop-i-preserved c = record {
  same = added_more c.args.ranks.now c.args.rows.now c.loop-i.rows c.add_one.new.rows c.loop-i.invariant.same c.add_one.ensures.same;
  long = c.add_one.ensures.long ∙ c.loop-i.invariant.long;
}
