use Rattle.std.proofs.Common.{◌≡◌, ◌∙◌, ◌%◌, ◌/◌, ap, ℕ, arith}
use Rattle.lift_table.proofs.ProductsLemmas.{all_products, high_part, low_part, one_product}
use Rattle.lift_table.proofs.products.products.Goals as goal

pub mul-product-requires-clause-first : goal.mul-product-requires-clause-first
mul-product-requires-clause-first g c = low_part (g.F.Ring.degree c.args.field.now) c.elements_of-count.result c.loop-i.i c.elements_of-count.ensures

pub mul-product-requires-clause-second : goal.mul-product-requires-clause-second
mul-product-requires-clause-second g c =
    high_part (g.F.Ring.degree c.args.field.now) c.rows_of-pairs.result c.elements_of-count.result c.loop-i.i c.elements_of-count.ensures c.rows_of-pairs.ensures (omega arith)

pub loop-i-preserved : goal.loop-i-preserved
loop-i-preserved g c =
    let mul : ℕ → ℕ → ℕ = g.F.Ring.product c.args.field.now in
    let i = c.loop-i.i in
    one_product (g.F.Ring.degree c.args.field.now) mul c.loop-i.list.items c.push.new.self.items i c.mul-product.result c.in_ok-push.ensures.items
    (c.mul-product.ensures.product ∙ ap (λ m. mul (i % m) (i / m)) c.elements_of-count.ensures) c.loop-i.invariant

pub returns : goal.returns
returns g c =
    let whole : c.loop-i.i ≡ c.rows_of-pairs.result = omega (arith, c.loop-i-test.false, c.loop-i.auto.i-end) in
    all_products (g.F.Ring.degree c.args.field.now) (g.F.Ring.product c.args.field.now) c.loop-i.i c.loop-i.list.items (whole ∙ c.rows_of-pairs.ensures) c.loop-i.invariant
