use Rattle.net_blif.proofs.RowLemmas.{bits_before, row_step, width_step}
use Rattle.net_blif.proofs.cells.cell_by_cell.Goals as goal

pub doubled-bits-requires-clause-bits : goal.doubled-bits-requires-clause-bits
doubled-bits-requires-clause-bits c = bits_before c.args.pattern.now c.loop-cell.cell-index c.loop-cell.width c.loop-cell.bits c.loop-cell.invariant.width c.loop-cell.invariant.bits

pub loop-cell-preserved : goal.loop-cell-preserved
loop-cell-preserved c =
    record {
      width = width_step c.loop-cell.cell-index c.loop-cell.width c.loop-cell.invariant.width;
      bits = row_step c.args.pattern.now c.loop-cell.cell-index c.loop-cell.bits c.loop-cell.width c.doubled-bits.result c.loop-cell-test.true c.loop-cell.invariant.width c.loop-cell.invariant.bits c.doubled-bits.ensures;
    }
