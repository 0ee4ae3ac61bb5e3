use Rattle.std.proofs.Common.{◌≡◌, ◌≢◌, ◌∙◌, ◌+◌, ◌∷◌, [], ap, sym, subst, ℕ, drop, drop_of_length-le, arith}
use Rattle.std.specs.List.{AllByRecursion}
use Rattle.std.proofs.lemmas.List.{drop_more}
use Rattle.poly_mixed.specs.Monomial.{Monomial}
use Rattle.poly_mixed.specs.Polynomial.{Terms, IsTerm}
use Rattle.poly_mixed.proofs.FieldLaws.{field_of}
use Rattle.poly_mixed.proofs.ProductLemmas.{no_terms_product}
use Rattle.cert_check.specs.private.Units.{units}
use Rattle.cert_check.proofs.multiple.add_products.Goals as goal

pub add_multiple-requires-clause-by : goal.add_multiple-requires-clause-by
add_multiple-requires-clause-by g c =
    let n : ℕ = c.loop-term.term-index in
    let ts : Terms = c.args.left.now in
    let item : Monomial × ℕ = c.term-item.result in
    let next : drop n ts ≡ item ∷ drop (n + 1) ts = drop_more ts n item c.loop-term-test.true ∙ ap (λ (t : Monomial × ℕ). t ∷ drop (n + 1) ts) (sym c.term-item.is) in
    let T : Terms → Type 0 = AllByRecursion (IsTerm (g.F.Ring.degree c.args.field.now)) in
    let N : Terms → Type 0 = AllByRecursion (λ t. t.1 ≢ 0) in
    ((subst T next c.loop-term.invariant.terms).0, (subst N next c.loop-term.invariant.nonzero).0)

pub returns-clause-values : goal.returns-clause-values
returns-clause-values g c p at =
    let ts : Terms = c.args.left.now in
    let past : drop c.loop-term.term-index ts ≡ [] = drop_of_length-le ts {i = c.loop-term.term-index} (omega (arith, c.loop-term-test.false)) in
    no_terms_product (field_of _ _ (g.met.F.Ring.laws c.args.field.now) (g.met.F.Field.no_zero_divisors c.args.field.now)) p at c.loop-term.sum.terms (units c.args.right.now) (drop c.loop-term.term-index ts) c.requires.right past ∙ c.loop-term.invariant.values p at
