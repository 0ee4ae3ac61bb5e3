use Rattle.std.proofs.Common.{◌≡◌, ◌≤◌, ◌+◌, ◌*◌, ◌/◌, ◌%◌, None, length}
use Rattle.make_nets.specs.Plan.{with_chain, chain_net}
use Rattle.make_nets.specs.Row.{row_by, row_of}
use Rattle.mult_composite.specs.Composite.{added_pairs}
use Rattle.mult_composite.proofs.sums.pair_sums.Given as goal

abbrev pub invariant-loop-p : goal.invariant-loop-p
invariant-loop-p l =
    (row_of l.plan l.nets.items ≡ row_by l.p (λ p. with_chain None (added_pairs l.n l.m l.products (p / l.n) (p % l.n))) (λ p so_far. chain_net None (added_pairs l.n l.m l.products (p / l.n) (p % l.n)) so_far) l.fn.plan)
    × (length l.nets.items ≡ l.p)
    × (l.plan.next ≤ l.fn.plan.next + l.p * 65)
