use Rattle.std.proofs.Common.{sym, refl, arith}
use Rattle.net_blif.proofs.RowLemmas.{cells_all, row_step}
use Rattle.net_blif.proofs.cells.bits_of_one.Goals as goal

pub returns : goal.returns
returns c = cells_all c.args.pattern.now 1 c.doubled.result (sym c.requires) (row_step c.args.pattern.now 0 1 1 c.doubled.result (omega (arith, c.requires)) refl refl c.doubled.ensures)
