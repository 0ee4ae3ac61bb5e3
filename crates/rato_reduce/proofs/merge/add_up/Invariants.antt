use Rattle.std.proofs.Common.{◌≡◌, length}
use Rattle.rato_reduce.specs.private.Rows.{AreAddedUp}
use Rattle.rato_reduce.proofs.merge.add_up.Given as goal

abbrev pub invariant-loop-i : goal.invariant-loop-i
invariant-loop-i l = record {
  same : AreAddedUp l.ranks l.initial.rows l.rows;
  long : length l.rows ≡ length l.initial.rows;
}
