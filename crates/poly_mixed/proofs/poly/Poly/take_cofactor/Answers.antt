use Rattle.std.proofs.Common.{sym, ◌∙◌, ap, subst}
use Rattle.std.proofs.lemmas.Result.{IfOk-weaker}
use Rattle.poly_mixed.specs.Cofactor.{IsCofactor}
use Rattle.poly_mixed.specs.Polynomial.{Terms, IsReduced, value}
use Rattle.poly_mixed.proofs.CofactorLemmas.{reduced_cofactors, value-cofactors, none_of_absent, absent_of_none}
use Rattle.poly_mixed.proofs.OneBitLemmas.{is_cofactor}
use Rattle.poly_mixed.proofs.poly.Poly.take_cofactor.Goals as goal

pub returns-clause-map : goal.returns-clause-map
returns-clause-map c =
    let P : Terms → Type 0 = IsCofactor c.args.bit c.args.self.now.terms in
    IfOk-weaker c.take_bit.result _ _ (λ q e. subst P (sym e) (is_cofactor c.args.bit c.args.self.now.terms c.take_bit.ensures.map)) c.take_bit.ensures.terms

pub returns-clause-reduced : goal.returns-clause-reduced
returns-clause-reduced c k r =
    let P : Terms → Type 0 = IsReduced k in
    IfOk-weaker c.take_bit.result _ _ (λ q e. subst P (sym e) (reduced_cofactors k c.args.bit c.args.self.now.terms r)) c.take_bit.ensures.terms

pub returns-clause-values : goal.returns-clause-values
returns-clause-values c mul =
    IfOk-weaker c.take_bit.result _ _ (λ q e p. ap (λ (ts : Terms). value mul p ts) e ∙ value-cofactors mul p c.args.bit c.args.self.now.terms) c.take_bit.ensures.terms

pub returns-clause-stands : goal.returns-clause-stands
returns-clause-stands c =
    IfOk-weaker c.take_bit.result _ _ (λ q e. (
      (λ lacks. e ∙ none_of_absent c.args.bit c.args.self.now.terms lacks),
      (λ none. absent_of_none c.args.bit c.args.self.now.terms (sym e ∙ none)),
    )) c.take_bit.ensures.terms
