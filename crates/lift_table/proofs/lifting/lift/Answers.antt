use Rattle.std.proofs.Common.{◌≤◌, replicate, sym, subst, List, ℕ, drop}
use Rattle.std.specs.List.{AllByRecursion}
use Rattle.poly_mixed.specs.Polynomial.{IsReduced, Terms}
use Rattle.poly_mixed.specs.laws.Uniqueness.{IsZeros}
use Rattle.poly_mixed.proofs.FieldLaws.{field_of}
use Rattle.poly_mixed.proofs.SimpleLemmas.{reduced_nothing}
use Rattle.lift_table.specs.private.Lifting.{AddsTable, IsOfWords}
use Rattle.lift_table.specs.private.Products.{AreProducts}
use Rattle.lift_table.proofs.LiftingLemmas.{polynomial, whole_part, zeros_all, zeros_later}
use Rattle.lift_table.proofs.lifting.lift.Goals as goal

pub products-requires : goal.products-requires
products-requires g c = c.requires.small.bits

pub add_terms-requires-clause-part : goal.add_terms-requires-clause-part
add_terms-requires-clause-part g c = whole_part (g.F.Ring.degree c.args.field.now) c.args.words c.args.table.now c.requires.small c.requires.few c.requires.long c.requires.elements

pub add_terms-requires-clause-products : goal.add_terms-requires-clause-products
add_terms-requires-clause-products g c =
    let P : List ℕ → Type 0 = AreProducts (g.F.Ring.degree c.args.field.now) (g.F.Ring.product c.args.field.now) in
    subst P (sym c.deref.ensures.value) c.in_ok-products.ensures

pub add_terms-requires-clause-sum : goal.add_terms-requires-clause-sum
add_terms-requires-clause-sum g c =
    let P : Terms → Type 0 = IsReduced (g.F.Ring.degree c.args.field.now) in
    subst P (sym c.zero-poly.ensures) (reduced_nothing (field_of _ _ (g.met.F.Ring.laws c.args.field.now) (g.met.F.Field.no_zero_divisors c.args.field.now)))

pub returns : goal.returns
returns g c =
    let k = g.F.Ring.degree c.args.field.now in
    let mul : ℕ → ℕ → ℕ = g.F.Ring.product c.args.field.now in
    let P : Terms → Type 0 = λ ts. AddsTable k mul c.args.words (replicate 8 0) c.args.table.now ts c.add_terms.new.sum.terms in
    let Q : Terms → Type 0 = λ ts. (every : ℕ) → c.args.words ≤ every → IsZeros (drop every (replicate 8 0)) → AllByRecursion (IsOfWords every) ts → AllByRecursion (IsOfWords every) c.add_terms.new.sum.terms in
    polynomial k mul (g.met.F.Ring.laws c.args.field.now) (g.met.F.Field.no_zero_divisors c.args.field.now)
    c.args.words (replicate 8 0) c.args.table.now c.add_terms.new.sum.terms c.requires.few (zeros_all 8) (zeros_later c.args.words 8) c.requires.long c.requires.elements
    c.in_ok-add_terms.ensures.reduced (subst P c.zero-poly.ensures c.in_ok-add_terms.ensures.values) (subst Q c.zero-poly.ensures c.in_ok-add_terms.ensures.kept)
