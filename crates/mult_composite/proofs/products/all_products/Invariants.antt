use Rattle.std.proofs.Common.{◌≡◌, ◌≤◌, ◌+◌, ◌*◌, ◌/◌, ◌%◌}
use Rattle.gf_field.specs.Ring2k.{modulus_of}
use Rattle.irreducible.specs.Proved.{ring_of}
use Rattle.make_nets.specs.Plan.{each}
use Rattle.make_nets.specs.Row.{begun_row, row_of, with_nets}
use Rattle.mult_composite.specs.Composite.{coefficient_product}
use Rattle.mult_composite.proofs.products.all_products.Given as goal

abbrev pub invariant-loop-q : goal.invariant-loop-q
invariant-loop-q l =
    (row_of l.plan l.nets.items ≡ each l.q (λ q row. with_nets row.nets (coefficient_product l.n (modulus_of (ring_of l.base)) l.a l.b (q / l.m) (q % l.m) row.plan)) (begun_row l.fn.plan))
    × (l.plan.next ≤ l.fn.plan.next + l.q * 65536)
