use Rattle.std.proofs.Common.{◌≡◌, ◌+◌, ◌*◌, ◌≤◌, ◌<◌, length}
use Rattle.make_nets.specs.Plan.{each}
use Rattle.mult_montgomery.specs.Montgomery.{round as round_of}
use Rattle.make_nets.specs.Row.{begun_row, row_of}
use Rattle.mult_montgomery.proofs.rounds.rounds.Given as goal

abbrev pub invariant-loop-i : goal.invariant-loop-i
invariant-loop-i l =
    (row_of l.plan l.row.items ≡ each l.i (round_of (length l.b) l.modulus l.a l.b) (begun_row l.fn.plan))
    × (0 < l.i → length l.row.items ≡ length l.b)
    × (l.plan.next ≤ l.fn.plan.next + l.i * (3 * length l.b))
