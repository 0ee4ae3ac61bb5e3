-- The rows are made up to a place.
use Rattle.std.proofs.Common.{◌≡◌, ◌≤◌, ◌+◌, ◌*◌, length}
use Rattle.make_nets.specs.Plan.{each}
use Rattle.mult_digit.specs.DigitPlan.{with_row}
use Rattle.mult_digit.proofs.products.add_products.Given as goal

abbrev pub invariant-loop-e : goal.invariant-loop-e
invariant-loop-e l =
    (record { next = l.plan.next; gates = l.plan.gates } ≡ each l.e (with_row (length l.fn.b) l.fn.d l.fn.b) (record { next = l.fn.plan.next; gates = l.fn.plan.gates }))
    × (l.plan.next ≤ l.fn.plan.next + 64 * l.e)
