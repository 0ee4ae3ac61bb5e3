use Rattle.std.proofs.Common.{◌≡◌, ◌<◌, ℕ, length, get_or}
use Rattle.circuit_model.specs.Flat.{circuit_of_parts}
use Rattle.circuit_model.specs.Out.{IsOut}
use Rattle.lift_table.specs.private.Digits.{digits_of}
use Rattle.lift_table.proofs.tabulating.table_over.Given as goal

abbrev pub invariant-loop-row : goal.invariant-loop-row
invariant-loop-row g l = record {
  long : length l.table.items ≡ l.row;
  outputs : (r : ℕ) → r < l.row → IsOut (circuit_of_parts (g.F.Ring.degree l.field) (g.F.Ring.product l.field) l.net l.words l.to) (digits_of (g.F.Ring.degree l.field) (length l.words) r) (get_or l.table.items r 0);
}
