use Rattle.std.proofs.Common.{◌≡◌, ◌++◌, drop}
use Rattle.lift_table.specs.TableText.{table_text, value_lines}
use Rattle.lift_table.proofs.writing.write_table.Given as goal

abbrev pub invariant-loop-value : goal.invariant-loop-value
invariant-loop-value l = l.text.items ++ value_lines (drop l.value-index l.table) ≡ table_text l.table
