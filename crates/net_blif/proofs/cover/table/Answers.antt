use Rattle.std.proofs.Common.{rules, ◌≡◌, ◌^◌, false, Some}
use Rattle.net_blif.specs.Cover.{fits_some}
use Rattle.net_blif.proofs.RowLemmas.{no_output, output_zero, table_small, within_ones}
use Rattle.net_blif.proofs.cover.table.Goals as goal

pub overflow_sub-result : goal.overflow_sub-result
overflow_sub-result c = within_ones (fits_some c.args.rows.now) (2 ^ c.args.inputs) c.all_ones.result c.rows_bits-in-Some-false.result c.all_ones.ensures c.rows_bits-in-Some-false.ensures

pub returns-in-None-clause-bits : goal.returns-in-None-clause-bits
returns-in-None-clause-bits c = no_output c.args.rows.now c.args.output (2 ^ c.args.inputs) c.in-None.is

pub returns-in-Some-true-clause-small : goal.returns-in-Some-true-clause-small
returns-in-Some-true-clause-small c = table_small (fits_some c.args.rows.now) (2 ^ c.args.inputs) c.rows_bits.result c.rows_bits.ensures

pub returns-in-Some-false-clause-bits : goal.returns-in-Some-false-clause-bits
returns-in-Some-false-clause-bits c =
    let is : c.args.output ≡ Some false = search rules in
    output_zero c.args.rows.now c.args.output (2 ^ c.args.inputs) c.all_ones.result c.rows_bits-in-Some-false.result is c.all_ones.ensures c.rows_bits-in-Some-false.ensures
