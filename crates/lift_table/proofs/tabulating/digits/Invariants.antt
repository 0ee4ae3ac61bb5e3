use Rattle.std.proofs.Common.{◌≡◌, ◌-◌, ◌++◌, length}
use Rattle.lift_table.specs.private.Digits.{digits_of}
use Rattle.lift_table.proofs.tabulating.digits.Given as goal

abbrev pub invariant-loop : goal.invariant-loop
invariant-loop g l = record {
  digits : l.list.items ++ digits_of (g.F.Ring.degree l.field) (l.count - l.counter) l.left ≡ digits_of (g.F.Ring.degree l.field) l.count l.row;
  long : length l.list.items ≡ l.counter;
}
