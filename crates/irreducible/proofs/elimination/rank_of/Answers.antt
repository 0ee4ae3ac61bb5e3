use Rattle.std.proofs.Common.{arith, length}
use Rattle.irreducible.proofs.PivotLaws.{rank_end}
use Rattle.irreducible.proofs.elimination.rank_of.Goals as goal

pub returns : goal.returns
returns c = rank_end c.args.rows.now c.eliminated.result.sums (length c.args.rows.now) c.eliminated.result.rank c.eliminated.ensures.rank (omega arith)
