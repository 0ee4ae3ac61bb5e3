use Rattle.std.proofs.Common.{arith, ◌≤◌}
use Rattle.gf_basis.specs.BasisParts.{elements_of}
use Rattle.mult_normal.specs.Coordinates.{counts_in}
use Rattle.mult_normal.specs.NormalPlan.{with_row}
use Rattle.mult_normal.proofs.ShapeLemmas.{products_more}
use Rattle.mult_normal.proofs.products.ProductMaker.add_rows.Goals as goal

pub loop-i-preserved : goal.loop-i-preserved
loop-i-preserved g c =
    let small : g.F.Ring.degree c.args.field.now ≤ 64 = (g.met.F.Ring.laws c.args.field.now).small in (
      products_more (with_row (g.F.Ring.degree c.args.field.now) (counts_in (g.F.Ring.degree c.args.field.now) (g.F.Ring.product c.args.field.now) (elements_of c.args.basis.now)) c.args.a.now c.args.b.now) c.loop-i.i c.args.self.now c.loop-i.self c.add_row.new.self c.loop-i.invariant.0 c.in_ok-add_row.ensures.made,
      omega (arith, small, c.in_ok-add_row.ensures.few, c.loop-i.invariant.1),
    )
