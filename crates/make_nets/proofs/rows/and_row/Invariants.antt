use Rattle.std.proofs.Common.{◌≡◌, ◌+◌, length}
use Rattle.make_nets.specs.Row.{and_row as and_row_of}
use Rattle.make_nets.specs.Row.{row_of}
use Rattle.make_nets.proofs.rows.and_row.Given as goal

abbrev pub invariant-loop-j : goal.invariant-loop-j
invariant-loop-j l =
    (row_of l.plan l.nets.items ≡ and_row_of l.j l.a l.row l.fn.plan)
    × (length l.nets.items ≡ l.j)
    × (l.plan.next ≡ l.fn.plan.next + l.j)
