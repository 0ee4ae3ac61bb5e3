use Rattle.std.proofs.Common.{◌≡◌, ◌++◌}
use Rattle.std.specs.List.{range_with_len}
use Rattle.net_write.specs.Written.{text_with}
use Rattle.net_write.specs.private.Fields.{rows_at}
use Rattle.net_write.proofs.rows.add_rows.Given as goal

abbrev pub invariant-loop-index : goal.invariant-loop-index
invariant-loop-index l = l.out.items ≡ l.initial.out.items ++ text_with (rows_at l.inputs l.table (range_with_len 0 l.index))
