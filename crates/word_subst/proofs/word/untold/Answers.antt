use Rattle.std.proofs.Common.{rules, ◌≡◌, None}
use Rattle.gf_basis.specs.BasisParts.{elements_of}
use Rattle.poly_mixed.specs.Polynomial.{Polynomial}
use Rattle.word_subst.proofs.OneWordLemmas.{untold_read}
use Rattle.word_subst.proofs.word.untold.Goals as goal

pub returns : goal.returns
returns g c =
    let none : g.T.Steps.steps c.args.steps.now ≡ None = search rules in
    untold_read (g.F.Ring.degree c.args.field.now) (g.F.Ring.product c.args.field.now) (elements_of c.args.basis.now) c.args.word c.args.terms.now c.args.bound (λ (q : Polynomial). q.terms) (g.T.Steps.steps c.args.steps.now) none c.at_once.result c.at_once.ensures
