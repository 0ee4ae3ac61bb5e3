use Rattle.std.proofs.Common.{sym, refl, arith}
use Rattle.net_blif.proofs.RowLemmas.{bits_before, cells_all, row_step}
use Rattle.net_blif.proofs.cells.bits_of_two.Goals as goal

pub doubled-requires-clause-bits : goal.doubled-requires-clause-bits
doubled-requires-clause-bits c = bits_before c.args.pattern.now 1 2 c.doubled-half.result refl (row_step c.args.pattern.now 0 1 1 c.doubled-half.result (omega (arith, c.requires)) refl refl c.doubled-half.ensures)

pub returns : goal.returns
returns c =
    let first = row_step c.args.pattern.now 0 1 1 c.doubled-half.result (omega (arith, c.requires)) refl refl c.doubled-half.ensures in
    cells_all c.args.pattern.now 2 c.doubled.result (sym c.requires) (row_step c.args.pattern.now 1 c.doubled-half.result 2 c.doubled.result (omega (arith, c.requires)) refl first c.doubled.ensures)
