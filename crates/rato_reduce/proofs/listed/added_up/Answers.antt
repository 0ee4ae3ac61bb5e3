use Rattle.std.proofs.Common.{◌≡◌, IfOk, subst}
use Rattle.poly_mixed.specs.Monomial.{text_cmp}
use Rattle.poly_mixed.specs.Polynomial.{Terms}
use Rattle.poly_mixed.specs.Sum.{plus}
use Rattle.rato_reduce.proofs.listed.added_up.Goals as goal

pub returns : goal.returns
returns c =
    let P : Terms → Type 0 = λ old. IfOk c.added_to.result (λ v. v.items ≡ plus text_cmp old c.args.terms.now) in
    subst P c.zero-sum.ensures c.added_to.ensures
