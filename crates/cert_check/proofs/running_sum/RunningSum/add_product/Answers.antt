use Rattle.std.proofs.Common.{◌≡◌, ◌∙◌, ap, sym, subst, ℕ, bit_xor, OnOk}
use Rattle.std.specs.Prelude.{Option}
use Rattle.poly_mixed.specs.Polynomial.{Point, IsPoint, value}
use Rattle.cert_check.specs.declared.form.Form.{Form}
use Rattle.cert_check.specs.private.Units.{units}
use Rattle.cert_check.specs.private.Held.{dual_of, form_value, rows_value, held_value}
use Rattle.cert_check.proofs.RowLemmas.{product_far, product_near}
use Rattle.cert_check.proofs.running_sum.RunningSum.add_product.Goals as goal

pub returns-in-Some-clause-values : goal.returns-in-Some-clause-values
returns-in-Some-clause-values g c =
    let k : ℕ = g.F.Ring.degree c.args.field.now in
    let mul : ℕ → ℕ → ℕ = g.F.Ring.product c.args.field.now in
    let dual : ℕ → ℕ → ℕ = dual_of c.args.circuit.now c.args.bases.now in
    let P : Option Form → Type 0 = λ o. OnOk c.keep_all.result ((p : Point) → IsPoint k p → held_value k mul dual p c.keep_all.new.self ≡ bit_xor (held_value k mul dual p c.args.self.now) (mul (value mul p c.args.factor.now) (bit_xor (value mul p (units c.args.near.now)) (form_value k mul dual p o)))) in
    subst P (sym c.in-Some.is)
    (product_far (g.met.F.Ring.laws c.args.field.now) (g.met.F.Field.no_zero_divisors c.args.field.now) dual c.keep_all.result c.args.self.now c.keep_all.new.self c.add_products.new.sum.terms c.args.factor.now (units c.args.near.now) c.in-Some.form c.in_ok-add_products.ensures.values c.keep_all.ensures.poly c.keep_all.ensures.values)

pub returns-in-None-clause-values : goal.returns-in-None-clause-values
returns-in-None-clause-values g c p at =
    let k : ℕ = g.F.Ring.degree c.args.field.now in
    let mul : ℕ → ℕ → ℕ = g.F.Ring.product c.args.field.now in
    let dual : ℕ → ℕ → ℕ = dual_of c.args.circuit.now c.args.bases.now in
    let old : ℕ = value mul p c.args.self.now.poly.terms in
    let rows : ℕ = rows_value k mul dual p c.args.self.now.rows.items in
    let f : ℕ = value mul p c.args.factor.now in
    let n : ℕ = value mul p (units c.args.near.now) in
    product_near (g.met.F.Ring.laws c.args.field.now) (g.met.F.Field.no_zero_divisors c.args.field.now) old (value mul p c.add_products.new.sum.terms) rows f n (c.in_ok-add_products.ensures.values p at)
    ∙ ap (λ (o : Option Form). bit_xor (bit_xor old rows) (mul f (bit_xor n (form_value k mul dual p o)))) (sym c.in-None.is)
