-- The chains are made up to a place.
use Rattle.std.proofs.Common.{◌≡◌, ◌≤◌, ◌+◌, ◌*◌}
use Rattle.make_nets.specs.Plan.{each}
use Rattle.mult_digit.specs.DigitPlan.{summands, with_sum}
use Rattle.mult_digit.proofs.sums.SumMaker.add_sums.Given as goal

abbrev pub invariant-loop-l : goal.invariant-loop-l
invariant-loop-l g l =
    (record { plan = record { next = l.self.plan.next; gates = l.self.plan.gates }; nets = l.self.nets }
    ≡ each l.l (λ m. with_sum (summands l.fn.first (g.R.Ring.degree l.fn.ring) (g.R.Ring.product l.fn.ring) l.fn.x l.fn.width l.fn.z m)) (record { plan = record { next = l.fn.self.plan.next; gates = l.fn.self.plan.gates }; nets = l.fn.self.nets }))
    × (l.self.plan.next ≤ 8192 + 4161 * l.l)
