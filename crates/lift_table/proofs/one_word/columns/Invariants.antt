use Rattle.lift_table.proofs.OneWordLemmas.{AreColumnsTo}
use Rattle.lift_table.proofs.one_word.columns.Given as goal

abbrev pub invariant-loop-row : goal.invariant-loop-row
invariant-loop-row g l = AreColumnsTo (g.F.Ring.degree l.field) (g.F.Ring.product l.field) l.n l.row l.table l.list.items
