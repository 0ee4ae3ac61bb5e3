use Rattle.std.proofs.Common.{◌≡◌, sym, ◌∙◌, ap, subst, []}
use Rattle.std.proofs.lemmas.Map.Iter.{rest_all}
use Rattle.std.specs.Map.Iter.{deref_pair}
use Rattle.poly_mixed.specs.Cofactor.{cofactors}
use Rattle.poly_mixed.specs.Monomial.{text_cmp}
use Rattle.poly_mixed.specs.Polynomial.{Polynomial, Terms, IsMap}
use Rattle.poly_mixed.specs.Sum.{plus}
use Rattle.poly_mixed.specs.private.Indexed.{terms_in}
use Rattle.poly_mixed.proofs.CofactorLemmas.{cofactors_map}
use Rattle.poly_mixed.proofs.ValueLemmas.{plus_nothing}
use Rattle.poly_mixed.proofs.poly.Poly.with_bit.Goals as goal

pub returns-clause-terms : goal.returns-clause-terms
returns-clause-terms c =
    let map = (let P : Polynomial → Type 0 = λ p. IsMap p.terms in subst P c.self.view_is c.self.invariant.is_map) in
    let none : c.loop-mono.mono-iterator ≡ [] = rest_all deref_pair _ _ _ c.in-None.is c.next.ensures.steps in
    ap (λ (ts : Terms). plus text_cmp c.loop-mono.out.terms (cofactors c.args.bit ts)) (ap terms_in (sym none))
    ∙ c.loop-mono.invariant.sum
    ∙ plus_nothing (cofactors c.args.bit c.args.self.now.terms) (cofactors_map c.args.bit c.args.self.now.terms map)
