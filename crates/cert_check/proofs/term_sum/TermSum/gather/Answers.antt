use Rattle.std.proofs.Common.{◌∙◌, ap, length}
use Rattle.poly_mixed.specs.Monomial.{text_cmp}
use Rattle.poly_mixed.specs.Polynomial.{Terms}
use Rattle.poly_mixed.specs.Sum.{plus}
use Rattle.cert_check.specs.private.Waiting.{Gathered, nonzero_of}
use Rattle.cert_check.proofs.term_sum.TermSum.gather.Goals as goal

pub returns-clause-terms : goal.returns-clause-terms
returns-clause-terms c =
    ap (λ (ws : Terms). plus text_cmp c.add_summands.new.self.terms (nonzero_of ws)) c.none.ensures
    ∙ (c.in_ok-add_summands.ensures
    ∙ (ap (λ (ws : Terms). plus text_cmp c.self.inside.map.terms (nonzero_of ws)) c.as_slice.ensures.value
    ∙ ap (λ (g : Gathered). g.terms) c.self.view_is))

pub returns-clause-none : goal.returns-clause-none
returns-clause-none c = ap (λ (ws : Terms). length ws) c.none.ensures
