use Rattle.std.proofs.Common.{sym, subst, ℕ}
use Rattle.poly_mixed.specs.Polynomial.{Terms, Point}
use Rattle.cert_check.specs.Running.{generator_value}
use Rattle.cert_check.specs.declared.last.LastGenerator.{LastGenerator}
use Rattle.cert_check.specs.private.Units.{units, AreTerms}
use Rattle.cert_check.specs.private.Held.{dual_of, IsSplit}
use Rattle.cert_check.proofs.HeldLemmas.{split_added, reduced_after}
use Rattle.cert_check.proofs.running.add_product.Goals as goal

pub add_product-requires-clause-near : goal.add_product-requires-clause-near
add_product-requires-clause-near g c =
    let P : Terms → Type 0 = AreTerms (g.F.Ring.degree c.args.field.now) in
    subst P (sym c.monos.ensures) (c.in_ok-make.ensures.last c.args.generator c.in_ok-make.ensures.generator).terms

pub add_product-requires-clause-form : goal.add_product-requires-clause-form
add_product-requires-clause-form g c = (c.in_ok-make.ensures.last c.args.generator c.in_ok-make.ensures.generator).is_form

pub returns-clause-reduced : goal.returns-clause-reduced
returns-clause-reduced g c = reduced_after (g.met.F.Ring.laws c.args.field.now) (g.met.F.Field.no_zero_divisors c.args.field.now) c.args.circuit.now c.args.bases.now (dual_of c.args.circuit.now c.args.bases.now) c.add_product.result c.add_product.new.self c.add_product.ensures.held

pub returns-clause-values : goal.returns-clause-values
returns-clause-values g c =
    let k : ℕ = g.F.Ring.degree c.args.field.now in
    let mul : ℕ → ℕ → ℕ = g.F.Ring.product c.args.field.now in
    let last : LastGenerator = c.make.new.self in
    let h : Point → ℕ = generator_value k mul c.args.circuit.now c.args.bases.now c.args.generator in
    let near : Terms = units c.monos.result.now in
    let N : Terms → Type 0 = λ ts. IsSplit k mul c.args.circuit.now c.args.bases.now h ts last.form in
    let split : IsSplit k mul c.args.circuit.now c.args.bases.now h near last.form = subst N (sym c.monos.ensures) (c.in_ok-make.ensures.last c.args.generator c.in_ok-make.ensures.generator) in
    split_added (g.met.F.Ring.laws c.args.field.now) (g.met.F.Field.no_zero_divisors c.args.field.now) c.args.circuit.now c.args.bases.now c.add_product.result c.args.sum.now c.add_product.new.self c.args.multiplier.now near last.form h c.requires.held split
    c.add_product.ensures.held c.add_product.ensures.values
