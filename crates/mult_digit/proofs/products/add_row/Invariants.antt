-- The row is made up to a place.
use Rattle.std.proofs.Common.{◌≡◌, ◌+◌, None}
use Rattle.make_nets.specs.Plan.{each, with_and}
use Rattle.make_laws.specs.Held.{net_at}
use Rattle.mult_digit.proofs.products.add_row.Given as goal

abbrev pub invariant-loop-j : goal.invariant-loop-j
invariant-loop-j l =
    (record { next = l.plan.next; gates = l.plan.gates } ≡ each l.j (λ j. with_and None l.fn.d (net_at l.fn.b j)) (record { next = l.fn.plan.next; gates = l.fn.plan.gates }))
    × (l.plan.next ≡ l.fn.plan.next + l.j)
