use Rattle.poly_mixed.proofs.FieldLaws.{field_of}
use Rattle.std.proofs.Common.{◌∙◌, ap, ◌≢◌}
use Rattle.std.proofs.lemmas.Map.Iter.{rest_more, rest_all}
use Rattle.std.specs.Map.Iter.{deref_pair}
use Rattle.poly_mixed.specs.Polynomial.{IsTerm}
use Rattle.poly_mixed.specs.private.Indexed.{terms_in}
use Rattle.poly_mixed.proofs.ProductLemmas.{outer_turn, no_terms_product}
use Rattle.poly_mixed.proofs.TermLemmas.{first_of}
use Rattle.poly_mixed.proofs.poly.Poly.mul.Goals as goal

pub add_product-requires-clause-term : goal.add_product-requires-clause-term
add_product-requires-clause-term g c =
    let next = rest_more deref_pair _ _ _ _ c.in-Some.is c.next.ensures.steps in
    let rest = terms_in c.loop-mono.mono-iterator in
    let later = terms_in c.next.new.self in (
      (first_of (IsTerm (g.F.Ring.degree c.args.field.now)) rest later (c.in-Some.mono.now, c.in-Some.place.now.coefficient) (ap terms_in next) c.loop-mono.invariant.terms).0,
      (first_of (λ t. t.1 ≢ 0) rest later (c.in-Some.mono.now, c.in-Some.place.now.coefficient) (ap terms_in next) c.loop-mono.invariant.nonzero).0,
    )

pub loop-mono-preserved : goal.loop-mono-preserved
loop-mono-preserved g c =
    let i = c.loop-mono.invariant in
    let next = rest_more deref_pair _ _ _ _ c.in-Some.is c.next.ensures.steps in
    let t = outer_turn (field_of _ _ (g.met.F.Ring.laws c.args.field.now) (g.met.F.Field.no_zero_divisors c.args.field.now)) (terms_in c.loop-mono.mono-iterator) (terms_in c.next.new.self) c.args.other.now.terms c.loop-mono.out.terms c.add_product.new.self.terms (c.in-Some.mono.now, c.in-Some.place.now.coefficient)
    (ap terms_in next) i.terms i.nonzero c.requires.other_over.terms c.in_ok-add_product.ensures.values in
    record { reduced = c.in_ok-add_product.ensures.reduced; terms = t.0; nonzero = t.1; values = λ p at. t.2 p at ∙ i.values p at }

pub returns-clause-values : goal.returns-clause-values
returns-clause-values g c p at =
    let none = rest_all deref_pair _ _ _ c.in-None.is c.next.ensures.steps in
    no_terms_product (field_of _ _ (g.met.F.Ring.laws c.args.field.now) (g.met.F.Field.no_zero_divisors c.args.field.now)) p at c.loop-mono.out.terms c.args.other.now.terms (terms_in c.loop-mono.mono-iterator) c.requires.other_over.terms (ap terms_in none) ∙ c.loop-mono.invariant.values p at
