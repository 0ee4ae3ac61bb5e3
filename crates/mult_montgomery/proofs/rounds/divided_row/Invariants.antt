use Rattle.std.proofs.Common.{◌≡◌, ◌+◌, ◌≤◌, length}
use Rattle.make_nets.specs.Row.{row_by, row_of}
use Rattle.mult_montgomery.specs.Montgomery.{moved_plan, moved_net}
use Rattle.mult_montgomery.proofs.rounds.divided_row.Given as goal

abbrev pub invariant-loop-j : goal.invariant-loop-j
invariant-loop-j l =
    (row_of l.plan l.nets.items ≡ row_by l.j (moved_plan l.modulus l.sum) (moved_net l.modulus l.sum) l.fn.plan)
    × (length l.nets.items ≡ l.j)
    × (l.plan.next ≤ l.fn.plan.next + l.j)
