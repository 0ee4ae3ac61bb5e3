use Rattle.std.proofs.Common.{ℕ, ◌+◌, ◌*◌, ◌<◌, length, sym, subst}
use Rattle.lift_table.proofs.ProductsLemmas.{place_within}
use Rattle.lift_table.proofs.products.product_of.Goals as goal

pub bounds-products-b : goal.bounds-products-b
bounds-products-b g c =
    let P : ℕ → Type 0 = λ count. c.args.b * count + c.args.a < length c.args.products.now in
    subst P (sym c.elements_of.ensures) (place_within (g.F.Ring.degree c.args.field.now) c.args.a c.args.b (length c.args.products.now) c.requires.first c.requires.second c.requires.products.long)
