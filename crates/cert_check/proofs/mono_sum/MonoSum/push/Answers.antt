use Rattle.std.proofs.Common.{◌∙◌, ◌∷◌, ◌++◌, [], ap}
use Rattle.poly_mixed.specs.Polynomial.{Polynomial}
use Rattle.cert_check.proofs.UnitLemmas.{units_more}
use Rattle.cert_check.proofs.mono_sum.MonoSum.push.Goals as goal

pub returns : goal.returns
returns c =
    let own = c.self.inside in
    units_more own.list.items c.push.new.self.items c.args.mono c.in_ok-push.ensures.items ∙ ap (λ (q : Polynomial). q.terms ++ (c.args.mono, 1) ∷ []) c.self.view_is
