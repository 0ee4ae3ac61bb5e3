-- The products so far.
use Rattle.std.proofs.Common.{◌≡◌, ◌+◌}
use Rattle.mult_gen.specs.Chains.{product_row}
use Rattle.mult_gen.proofs.products.product_row.Given as goal

abbrev pub invariant-loop-y : goal.invariant-loop-y
invariant-loop-y l = (l.plan ≡ product_row l.y-index l.x l.b l.fn.plan) × (l.plan.next ≡ l.fn.plan.next + l.y-index)
