use Rattle.std.proofs.Common.{◌≡◌, ◌∙◌, ◌<◌, ◌≤◌, ◌+◌, ◌^◌, ◌∷◌, [], ap, sym, subst, ℕ, List, drop, drop_of_length-le, arith}
use Rattle.std.proofs.lemmas.List.{drop_more}
use Rattle.std.specs.List.{AllByRecursion}
use Rattle.poly_mixed.specs.Monomial.{Monomial}
use Rattle.poly_mixed.specs.Polynomial.{Polynomial, Terms}
use Rattle.poly_mixed.specs.Product.{times}
use Rattle.poly_mixed.proofs.FieldLaws.{field_of}
use Rattle.poly_mixed.proofs.ProductLemmas.{turn, product_nothing}
use Rattle.cert_check.specs.private.Units.{units, AreTerms}
use Rattle.cert_check.proofs.UnitLemmas.{nonzero, units_next}
use Rattle.cert_check.proofs.multiple.add_multiple.Goals as goal

pub product-requires-clause-k_in : goal.product-requires-clause-k_in
product-requires-clause-k_in g c =
    let ring = g.met.F.Ring.laws c.args.field.now in
    let Q : ℕ → Type 0 = λ n. (1 ≤ n) × (n ≤ 64) in
    subst Q (sym c.k-k.ensures) (ring.some, ring.small)

pub product-requires-clause-left : goal.product-requires-clause-left
product-requires-clause-left g c =
    let k : ℕ = g.F.Ring.degree c.args.field.now in
    let M : Monomial → Type 0 = λ m. AllByRecursion (λ e. e < 2 ^ k) m.exponents in
    let Q : ℕ → Type 0 = λ n. AllByRecursion (λ e. e < 2 ^ n) c.mono.result.now.exponents in
    subst Q (sym c.k-k.ensures) (subst M (sym c.mono.ensures) c.requires.by.0.monomial.exponents)

pub add_term-requires : goal.add_term-requires
add_term-requires g c = λ e. c.requires.by.1 (sym c.coefficient-c.ensures ∙ e)

pub product-requires-clause-right : goal.product-requires-clause-right
product-requires-clause-right g c =
    let k : ℕ = g.F.Ring.degree c.args.field.now in
    let n : ℕ = c.loop-other.other-index in
    let ms : List Monomial = c.args.monos.now in
    let item : Monomial = c.other-item.result in
    let next : units (drop n ms) ≡ (item, 1) ∷ units (drop (n + 1) ms) = units_next ms n item (drop_more ms n item c.loop-other-test.true ∙ ap (λ (m : Monomial). m ∷ drop (n + 1) ms) (sym c.other-item.is)) in
    let P : Terms → Type 0 = AreTerms k in
    let Q : ℕ → Type 0 = λ m. AllByRecursion (λ e. e < 2 ^ m) item.exponents in
    subst Q (sym c.k-k.ensures) (subst P next c.loop-other.invariant.terms).0.monomial.exponents

pub loop-other-preserved : goal.loop-other-preserved
loop-other-preserved g c =
    let mul : ℕ → ℕ → ℕ = g.F.Ring.product c.args.field.now in
    let ring = g.met.F.Ring.laws c.args.field.now in
    let i = c.loop-other.invariant in
    let n : ℕ = c.loop-other.other-index in
    let ms : List Monomial = c.args.monos.now in
    let by : Monomial × ℕ = c.args.by.now in
    let item : Monomial = c.other-item.result in
    let next : units (drop n ms) ≡ (item, 1) ∷ units (drop (n + 1) ms) = units_next ms n item (drop_more ms n item c.loop-other-test.true ∙ ap (λ (m : Monomial). m ∷ drop (n + 1) ms) (sym c.other-item.is)) in
    let mono : c.in_ok-mono.mono ≡ times c.k-k.result by.0 item = c.in_ok-mono.ensures ∙ ap (λ (m : Monomial). times c.k-k.result m item) c.mono.ensures in
    let one : c.coefficient-c.result ≡ mul by.1 1 = c.coefficient-c.ensures ∙ sym (ring.comm by.1 1 ∙ ring.one by.1 c.requires.by.0.element) in
    let new : Polynomial = record { terms = c.add_term.new.self.terms; slots = [] } in
    let t = turn (field_of _ _ ring (g.met.F.Field.no_zero_divisors c.args.field.now)) c.loop-other.sum.terms (units (drop n ms)) (units (drop (n + 1) ms)) by.0 item by.1 1
    i.reduced c.requires.by.0 c.requires.by.1 next i.terms (nonzero (drop n ms)) c.k-k.result c.coefficient-c.result c.in_ok-mono.mono new c.k-k.ensures mono one c.in_ok-add_term.ensures in
    record { reduced = t.0; terms = t.1; values = λ p at. t.3 p at ∙ i.values p at }

pub returns-clause-values : goal.returns-clause-values
returns-clause-values g c p at =
    let ms : List Monomial = c.args.monos.now in
    let past : units (drop c.loop-other.other-index ms) ≡ [] = ap units (drop_of_length-le ms {i = c.loop-other.other-index} (omega (arith, c.loop-other-test.false))) in
    product_nothing (field_of _ _ (g.met.F.Ring.laws c.args.field.now) (g.met.F.Field.no_zero_divisors c.args.field.now)) p at c.loop-other.sum.terms c.args.by.now (units (drop c.loop-other.other-index ms)) c.requires.by.0 past ∙ c.loop-other.invariant.values p at
