use Rattle.std.proofs.Common.{◌∙◌, ◌∷◌, [], ap, sym}
use Rattle.poly_mixed.specs.Monomial.{Monomial}
use Rattle.cert_make.proofs.KeyLemmas.{only_slot}
use Rattle.cert_make.proofs.only.only_term.Goals as goal

pub returns-clause-terms : goal.returns-clause-terms
returns-clause-terms c =
    (only_slot c.args.poly.now 0 c.in_ok-coefficient.coefficient c.in_ok-coefficient.mono.now (sym c.len.ensures ∙ c.if-len-ne1.false) c.in_ok-coefficient.ensures.slots c.in_ok-coefficient.ensures.term).0
    ∙ ap (λ (m : Monomial). (m, c.in_ok-coefficient.coefficient) ∷ []) c.in_ok-rank.ensures
