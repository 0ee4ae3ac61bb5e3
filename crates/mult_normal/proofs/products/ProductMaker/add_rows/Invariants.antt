-- The rows are made up to a place.
use Rattle.std.proofs.Common.{◌≡◌, ◌≤◌, ◌+◌, ◌*◌}
use Rattle.gf_basis.specs.BasisParts.{elements_of}
use Rattle.mult_normal.specs.Coordinates.{counts_in}
use Rattle.mult_normal.specs.NormalPlan.{with_row}
use Rattle.make_nets.specs.Plan.{each}
use Rattle.mult_normal.proofs.products.ProductMaker.add_rows.Given as goal

abbrev pub invariant-loop-i : goal.invariant-loop-i
invariant-loop-i g l =
    (record { plan = record { next = l.self.plan.next; gates = l.self.plan.gates }; nets = l.self.nets }
    ≡ each l.i (with_row (g.F.Ring.degree l.fn.field) (counts_in (g.F.Ring.degree l.fn.field) (g.F.Ring.product l.fn.field) (elements_of l.fn.basis)) l.fn.a l.fn.b) (record { plan = record { next = l.fn.self.plan.next; gates = l.fn.self.plan.gates }; nets = l.fn.self.nets }))
    × (l.self.plan.next ≤ l.fn.self.plan.next + 64 * l.i)
