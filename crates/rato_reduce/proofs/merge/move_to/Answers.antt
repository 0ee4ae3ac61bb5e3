use Rattle.rato_reduce.proofs.RowLemmas.{moved_rows}
use Rattle.rato_reduce.proofs.merge.move_to.Goals as goal

pub returns-clause-same : goal.returns-clause-same
returns-clause-same c = moved_rows c.args._ranks.now c.args.rows.now c.add_at.new.rows c.add_at-2.new.rows c.args.to c.args.from _ c.requires c.add_at.ensures c.add_at-2.ensures
