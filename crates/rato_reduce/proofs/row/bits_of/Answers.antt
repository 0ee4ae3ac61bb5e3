use Rattle.rato_reduce.proofs.RowLemmas.{bits_clipped}
use Rattle.rato_reduce.proofs.row.bits_of.Goals as goal

pub returns : goal.returns
returns c = bits_clipped c.args.ranks.now c.args.row.now c.clipped-start.result c.clipped-stop.result c.clipped-stop.ensures.early c.clipped-stop.ensures.late c.clipped-start.ensures.early c.clipped-start.ensures.late
