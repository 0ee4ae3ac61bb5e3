use Rattle.std.proofs.Common.{◌≡◌, [], IfOk, map, sym, ◌∙◌, ap, subst}
use Rattle.std.specs.List.{AllByRecursion}
use Rattle.poly_mixed.specs.Monomial.{text_cmp}
use Rattle.poly_mixed.specs.Polynomial.{Terms}
use Rattle.poly_mixed.specs.Sum.{plus}
use Rattle.rato_reduce.specs.private.CutTerms.{CutPolynomial, term_of, with_constant, IsBitTerm}
use Rattle.rato_reduce.proofs.CutLemmas.{entry_terms}
use Rattle.rato_reduce.proofs.ListedLemmas.{constant_bit_terms, constant_listed}
use Rattle.rato_reduce.proofs.cut.Cut.to_terms.Goals as goal

pub push_terms-requires : goal.push_terms-requires
push_terms-requires c = entry_terms c.self.inside.places.items c.self.inside.map.entries c.self.invariant.are.each

pub sum_in_order-requires : goal.sum_in_order-requires
sum_in_order-requires c =
    let k = c.self.inside.constant in
    let entries = c.self.inside.map.entries in
    let is : c.push_terms.new.terms.items ≡ map term_of (with_constant k entries) = constant_listed k entries _ _ c.in_ok-terms.ensures c.in_ok-push_terms.ensures in
    let P : Terms → Type 0 = AllByRecursion IsBitTerm in
    subst P (sym is) (constant_bit_terms c.self.inside.places.items k entries c.self.invariant)

pub returns : goal.returns
returns c =
    let k = c.self.inside.constant in
    let entries = c.self.inside.map.entries in
    let is : c.push_terms.new.terms.items ≡ map term_of (with_constant k entries) = constant_listed k entries _ _ c.in_ok-terms.ensures c.in_ok-push_terms.ensures in
    let same : plus text_cmp [] c.push_terms.new.terms.items ≡ c.args.self.now.terms = ap (plus text_cmp []) is ∙ ap (λ (q : CutPolynomial). q.terms) c.self.view_is in
    let P : Terms → Type 0 = λ ts. IfOk c.sum_in_order.result (λ v. v.items ≡ ts) in
    subst P same c.sum_in_order.ensures
