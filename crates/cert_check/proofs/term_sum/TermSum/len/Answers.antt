use Rattle.std.proofs.Common.{◌∙◌, ap, sym, length}
use Rattle.poly_mixed.specs.Polynomial.{Terms}
use Rattle.cert_check.specs.private.Waiting.{Gathered}
use Rattle.cert_check.proofs.WaitingLemmas.{none_wait}
use Rattle.cert_check.proofs.term_sum.TermSum.len.Goals as goal

pub returns-clause-size : goal.returns-clause-size
returns-clause-size c =
    c.len.ensures.size
    ∙ (ap (λ (ts : Terms). length ts) (sym (none_wait c.self.inside.map.terms c.self.inside.waiting (ap (λ (g : Gathered). g.waiting) c.self.view_is ∙ c.requires)))
    ∙ ap (λ (g : Gathered). length g.terms) c.self.view_is)
