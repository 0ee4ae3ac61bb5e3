use Rattle.std.proofs.Common.{◌∙◌, ap, sym, ℕ}
use Rattle.poly_mixed.specs.Monomial.{Monomial}
use Rattle.poly_mixed.proofs.SharedLemmas.{same_monomial}
use Rattle.cert_check.proofs.summand.Summand.is_of.Goals as goal

pub returns : goal.returns
returns c same = ap (λ (t : Monomial × ℕ). t.0) (sym c.self.view_is) ∙ same_monomial c.self.inside.mono c.args.mono.now (sym c.eq.ensures ∙ same)
