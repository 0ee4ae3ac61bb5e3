use Rattle.std.proofs.Common.{[], ◌∙◌, ap}
use Rattle.poly_mixed.specs.Monomial.{text_cmp}
use Rattle.poly_mixed.specs.Polynomial.{Terms}
use Rattle.poly_mixed.specs.Sum.{plus}
use Rattle.poly_mixed.proofs.ValueLemmas.{plus_nothing}
use Rattle.cert_check.proofs.term_map.TermMap.of.Goals as goal

pub returns : goal.returns
returns c =
    c.in_ok-add_terms.ensures
    ∙ (ap (λ (ts : Terms). plus text_cmp ts c.deref.result.now) c.zero-map.ensures
    ∙ (ap (λ (ts : Terms). plus text_cmp [] ts) (c.deref.ensures.value ∙ c.in_ok-terms.ensures) ∙ plus_nothing c.args.poly.now.terms c.requires))
