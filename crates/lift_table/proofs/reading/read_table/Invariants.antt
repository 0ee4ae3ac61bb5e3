use Rattle.std.proofs.Common.{◌*◌, ◌^◌}
use Rattle.std.specs.Str.Lines.{lines}
use Rattle.lift_table.proofs.ReadingLemmas.{IsReadTo}
use Rattle.lift_table.proofs.reading.read_table.Given as goal

abbrev pub invariant-loop-row : goal.invariant-loop-row
invariant-loop-row l = IsReadTo l.k (2 ^ (l.k * l.words)) (lines l.bytes) l.row (lines l.rest) l.table.items
