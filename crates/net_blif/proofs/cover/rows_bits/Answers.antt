use Rattle.std.proofs.Common.{◌^◌, ◌∙◌, refl}
use Rattle.net_blif.proofs.RowLemmas.{no_rows, rows_step}
use Rattle.net_blif.proofs.cover.rows_bits.Goals as goal

pub loop-row-init : goal.loop-row-init
loop-row-init c = no_rows (2 ^ c.args.inputs)

pub loop-row-preserved : goal.loop-row-preserved
loop-row-preserved c = rows_step c.args.rows.now c.loop-row.row-index (2 ^ c.args.inputs) c.loop-row.bits c.row_bits-bits.result _ c.bytes.result.now _ c.loop-row-test.true (c.bytes.ensures ∙ c.row-item.is) c.loop-row.invariant c.row_bits-bits.ensures refl
