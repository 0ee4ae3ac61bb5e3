use Rattle.std.proofs.Common.{◌∙◌, ap, arith}
use Rattle.gf_basis.specs.BasisParts.{elements_of}
use Rattle.make_laws.specs.Held.{net_at}
use Rattle.mult_normal.specs.Coordinates.{counts_in}
use Rattle.mult_normal.specs.NormalPlan.{with_product}
use Rattle.mult_normal.proofs.ShapeLemmas.{product_grows, products_more}
use Rattle.mult_normal.proofs.products.ProductMaker.add_row.Goals as goal

pub loop-j-preserved : goal.loop-j-preserved
loop-j-preserved g c = (
  products_more (λ j. with_product (counts_in (g.F.Ring.degree c.args.field.now) (g.F.Ring.product c.args.field.now) (elements_of c.args.basis.now) c.args.i j) (net_at c.args.a.now c.args.i) (net_at c.args.b.now j)) c.loop-j.j c.args.self.now c.loop-j.self c.add_product.new.self c.loop-j.invariant.0
      (c.in_ok-add_product.ensures ∙ ap (λ so. with_product so (net_at c.args.a.now c.args.i) (net_at c.args.b.now c.loop-j.j) c.loop-j.self) c.counts-so.ensures),
  omega (arith, c.loop-j.invariant.1, product_grows c.counts-so.result (net_at c.args.a.now c.args.i) (net_at c.args.b.now c.loop-j.j) c.loop-j.self c.add_product.new.self c.in_ok-add_product.ensures),
)
