-- The row is made up to a place.
use Rattle.std.proofs.Common.{◌≡◌, ◌≤◌, ◌+◌}
use Rattle.gf_basis.specs.BasisParts.{elements_of}
use Rattle.mult_normal.specs.Coordinates.{counts_in}
use Rattle.mult_normal.specs.NormalPlan.{with_product}
use Rattle.make_laws.specs.Held.{net_at}
use Rattle.make_nets.specs.Plan.{each}
use Rattle.mult_normal.proofs.products.ProductMaker.add_row.Given as goal

abbrev pub invariant-loop-j : goal.invariant-loop-j
invariant-loop-j g l =
    (record { plan = record { next = l.self.plan.next; gates = l.self.plan.gates }; nets = l.self.nets }
    ≡ each l.j (λ j. with_product (counts_in (g.F.Ring.degree l.fn.field) (g.F.Ring.product l.fn.field) (elements_of l.fn.basis) l.fn.i j) (net_at l.fn.a l.fn.i) (net_at l.fn.b j)) (record { plan = record { next = l.fn.self.plan.next; gates = l.fn.self.plan.gates }; nets = l.fn.self.nets }))
    × (l.self.plan.next ≤ l.fn.self.plan.next + l.j)
