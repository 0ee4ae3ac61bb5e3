-- The rows so far.
use Rattle.std.proofs.Common.{◌≡◌, ◌+◌, ◌*◌, length, get_or}
use Rattle.make_nets.specs.Plan.{each}
use Rattle.mult_gen.specs.Chains.{product_row}
use Rattle.mult_gen.proofs.products.bit_products.Given as goal

abbrev pub invariant-loop-x : goal.invariant-loop-x
invariant-loop-x l = (l.plan ≡ each l.x-index (λ i. product_row (length l.b) (get_or l.a i 0) l.b) l.fn.plan) × (l.plan.next ≡ l.fn.plan.next + l.x-index * length l.b)
