use Rattle.std.proofs.Common.{◌≡◌, ◌++◌, drop}
use Rattle.rato_reduce.specs.private.Rows.{lines_of}
use Rattle.rato_reduce.proofs.bucket.copied.Given as goal

abbrev pub invariant-loop-row : goal.invariant-loop-row
invariant-loop-row l = l.bucket ++ lines_of l.ranks (drop l.row-index l.rows) ≡ lines_of l.ranks l.rows
