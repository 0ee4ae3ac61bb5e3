use Rattle.lift_table.specs.private.Digits.{digits_of}
use Rattle.lift_table.proofs.RowLemmas.{digit_at, row_below, one_input, digits_long, digits_below, row_of_digits}
use Rattle.lift_table.proofs.laws.rows_are_digits.Goals as goal

pub returns : goal.returns
returns c = record {
  digit = digit_at;
  below = row_below;
  some = λ k words row less. (digits_of k words row, digits_long k words row, digits_below k words row, row_of_digits k words row less);
  only = one_input;
}
