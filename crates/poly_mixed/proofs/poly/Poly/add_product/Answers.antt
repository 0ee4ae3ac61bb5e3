use Rattle.poly_mixed.proofs.FieldLaws.{field_of}
use Rattle.std.proofs.Common.{◌∙◌, ap, sym, subst, ◌≢◌, ◌<◌, ◌^◌, ℕ, arith}
use Rattle.std.proofs.lemmas.Map.Iter.{rest_more, rest_all}
use Rattle.std.specs.Map.Iter.{deref_pair}
use Rattle.std.specs.List.{AllByRecursion}
use Rattle.poly_mixed.specs.Polynomial.{IsTerm}
use Rattle.poly_mixed.specs.private.Indexed.{terms_in}
use Rattle.poly_mixed.proofs.ProductLemmas.{turn, product_nothing}
use Rattle.poly_mixed.proofs.TermLemmas.{first_of}
use Rattle.poly_mixed.proofs.poly.Poly.add_product.Goals as goal

pub by-product-requires : goal.by-product-requires
by-product-requires g c =
    let next = rest_more deref_pair _ _ _ _ c.in-Some.is c.next.ensures.steps in
    record {
      table = (c.args.c, c.requires.term.0.element, c.times-table.ensures.table);
      element = (first_of (IsTerm (g.F.Ring.degree c.args.field.now)) (terms_in c.loop-n.n-iterator) (terms_in c.next.new.self) (c.in-Some.n.now, c.in-Some.place.now.coefficient) (ap terms_in next) c.loop-n.invariant.terms).0.element;
    }

pub times-requires : goal.times-requires
times-requires g c =
    let k : ℕ = g.F.Ring.degree c.args.field.now in
    let ring = g.met.F.Ring.laws c.args.field.now in
    let next = rest_more deref_pair _ _ _ _ c.in-Some.is c.next.ensures.steps in
    let first = (first_of (IsTerm k) (terms_in c.loop-n.n-iterator) (terms_in c.next.new.self) (c.in-Some.n.now, c.in-Some.place.now.coefficient) (ap terms_in next) c.loop-n.invariant.terms).0 in
    let P : ℕ → Type 0 = λ n. AllByRecursion (λ e. e < 2 ^ n) c.args.mono.now.exponents in
    let Q : ℕ → Type 0 = λ n. AllByRecursion (λ e. e < 2 ^ n) c.in-Some.n.now.exponents in
    record {
      k_in = (omega (arith, c.k-k.ensures, ring.some), omega (arith, c.k-k.ensures, ring.small));
      over = subst P (sym c.k-k.ensures) c.requires.term.0.monomial.exponents;
      other_over = subst Q (sym c.k-k.ensures) first.monomial.exponents;
    }

pub add_term-requires : goal.add_term-requires
add_term-requires g c =
    let k : ℕ = g.F.Ring.degree c.args.field.now in
    let next = rest_more deref_pair _ _ _ _ c.in-Some.is c.next.ensures.steps in
    let first = (first_of (IsTerm k) (terms_in c.loop-n.n-iterator) (terms_in c.next.new.self) (c.in-Some.n.now, c.in-Some.place.now.coefficient) (ap terms_in next) c.loop-n.invariant.terms).0 in
    let some = (first_of (λ t. t.1 ≢ 0) (terms_in c.loop-n.n-iterator) (terms_in c.next.new.self) (c.in-Some.n.now, c.in-Some.place.now.coefficient) (ap terms_in next) c.loop-n.invariant.nonzero).0 in
    let P : ℕ → Type 0 = λ n. n ≢ 0 in
    subst P (sym (c.by-product.ensures.product c.args.c c.requires.term.0.element c.times-table.ensures.table)) ((g.met.F.Field.no_zero_divisors c.args.field.now).nonzero c.args.c c.in-Some.place.now.coefficient c.requires.term.0.element first.element c.requires.term.1 some)

pub loop-n-preserved : goal.loop-n-preserved
loop-n-preserved g c =
    let i = c.loop-n.invariant in
    let next = rest_more deref_pair _ _ _ _ c.in-Some.is c.next.ensures.steps in
    let t = turn (field_of _ _ (g.met.F.Ring.laws c.args.field.now) (g.met.F.Field.no_zero_divisors c.args.field.now)) c.loop-n.self.terms (terms_in c.loop-n.n-iterator) (terms_in c.next.new.self) c.args.mono.now c.in-Some.n.now c.args.c c.in-Some.place.now.coefficient
    i.reduced c.requires.term.0 c.requires.term.1 (ap terms_in next) i.terms i.nonzero c.k-k.result c.by-product.result c.in_ok-times.field-0 c.add_term.new.self c.k-k.ensures c.in_ok-times.ensures (c.by-product.ensures.product c.args.c c.requires.term.0.element c.times-table.ensures.table) c.in_ok-add_term.ensures in
    record { reduced = t.0; terms = t.1; nonzero = t.2; values = λ p at. t.3 p at ∙ i.values p at }

pub returns-clause-values : goal.returns-clause-values
returns-clause-values g c p at =
    let degree = g.F.Ring.degree c.args.field.now in
    let mul = g.F.Ring.product c.args.field.now in
    let none = rest_all deref_pair _ _ _ c.in-None.is c.next.ensures.steps in
    product_nothing (field_of _ _ (g.met.F.Ring.laws c.args.field.now) (g.met.F.Field.no_zero_divisors c.args.field.now)) p at c.loop-n.self.terms (c.args.mono.now, c.args.c) (terms_in c.loop-n.n-iterator) c.requires.term.0 (ap terms_in none) ∙ c.loop-n.invariant.values p at
