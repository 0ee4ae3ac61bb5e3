use Rattle.std.proofs.Common.{◌≡◌, ◌++◌, drop}
use Rattle.std.specs.List.{AllByRecursion}
use Rattle.rato_reduce.specs.private.CutTerms.{IsBitTerm}
use Rattle.rato_reduce.specs.private.Rows.{lines_of}
use Rattle.rato_reduce.proofs.listed.push_rows.Given as goal

abbrev pub invariant-loop-row : goal.invariant-loop-row
invariant-loop-row l = record {
  each : AllByRecursion IsBitTerm (lines_of l.ranks (drop l.row-index l.rows));
  so_far : l.terms.items ++ lines_of l.ranks (drop l.row-index l.rows) ≡ l.fn.terms.items ++ lines_of l.ranks l.rows;
}
