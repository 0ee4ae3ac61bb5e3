use Rattle.std.proofs.Common.{◌≡◌, ◌≤◌, ◌+◌, ◌*◌, None}
use Rattle.gf_field.specs.Ring2k.{modulus_of}
use Rattle.irreducible.specs.Proved.{ring_of}
use Rattle.make_nets.specs.Plan.{with_chain, chain_net}
use Rattle.make_nets.specs.Row.{row_by, row_of}
use Rattle.mult_gen.specs.Chains.{added_products, products as bit_products}
use Rattle.mult_composite.proofs.products.base_product.Given as goal

abbrev pub invariant-loop-l : goal.invariant-loop-l
invariant-loop-l l =
    (row_of l.plan l.nets.items ≡ row_by l.l (λ k. with_chain None (added_products l.n (modulus_of (ring_of l.base)) l.fn.plan.next k)) (λ k so_far. chain_net None (added_products l.n (modulus_of (ring_of l.base)) l.fn.plan.next k) so_far) (bit_products l.n l.a l.b l.fn.plan))
    × (l.plan.next ≤ l.fn.plan.next + 1024 + l.l * 1025)
