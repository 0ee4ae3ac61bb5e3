use Rattle.std.proofs.Common.{◌≡◌, [], ◌∷◌, OnOk, ◌∙◌, ap, subst}
use Rattle.poly_mixed.specs.Monomial.{text_cmp}
use Rattle.poly_mixed.specs.Polynomial.{Terms}
use Rattle.poly_mixed.specs.Steps.{Tells}
use Rattle.poly_mixed.specs.Sum.{plus}
use Rattle.poly_mixed.specs.declared.steps.Generator.TheVariants.{Net}
use Rattle.rato_reduce.proofs.eliminate.tell.Goals as goal

pub returns : goal.returns
returns g c =
    let part = c.args.part.now in
    let sum : c.add_terms.new.sum.terms ≡ plus text_cmp [] part = c.in_ok-add_terms.ensures ∙ ap (λ (ts : Terms). plus text_cmp ts part) c.zero-cofactor.ensures in
    let P : Terms → Type 0 = λ ts. OnOk c.step.result (Tells (g.T.Steps.steps c.args.steps.now) (g.T.Steps.steps c.step.new.self) ((Net c.args.net, ts) ∷ [])) in
    subst P sum c.step.ensures
