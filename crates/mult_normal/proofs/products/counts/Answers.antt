use Rattle.std.proofs.Common.{ap₂, ◌∙◌}
use Rattle.gf_basis.specs.BasisParts.{elements_of}
use Rattle.mult_normal.proofs.CoordinateLemmas.{counts_are}
use Rattle.mult_normal.proofs.products.counts.Goals as goal

pub returns : goal.returns
returns g c =
    counts_are (g.F.Ring.degree c.args.field.now) (elements_of c.args.basis.now) c.requires.over.elements (g.F.Ring.product c.args.field.now)
    c.args.i c.args.j c.mul-product.result c.bits_of-coordinates.result c.k.result c.mul-product.ensures.element
    (c.mul-product.ensures.product ∙ ap₂ (g.F.Ring.product c.args.field.now) c.element.ensures c.element-2.ensures)
    c.bits_of-coordinates.ensures c.k.ensures
