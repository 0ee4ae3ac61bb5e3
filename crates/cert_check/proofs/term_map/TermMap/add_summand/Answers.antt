use Rattle.std.proofs.Common.{◌≢◌, ◌∙◌, ap, sym, ℕ}
use Rattle.std.proofs.lemmas.Result.{on_ok_weaker}
use Rattle.poly_mixed.specs.Monomial.{Monomial, text_cmp}
use Rattle.poly_mixed.specs.Polynomial.{Terms}
use Rattle.poly_mixed.specs.Sum.{plus, plus_term}
use Rattle.cert_check.proofs.WaitingLemmas.{zero_goes, other_stays}
use Rattle.cert_check.proofs.term_map.TermMap.add_summand.Goals as goal

pub returns-then-c-eq0 : goal.returns-then-c-eq0
returns-then-c-eq0 c = ap (λ (us : Terms). plus text_cmp c.args.self.now.terms us) (sym (zero_goes c.args.summand.now (sym c.coefficient-c.ensures ∙ c.if-c-eq0.true)))

pub returns : goal.returns
returns c =
    let old : Terms = c.args.self.now.terms in
    let t : Monomial × ℕ = c.args.summand.now in
    let some : t.1 ≢ 0 = λ e. c.if-c-eq0.false (c.coefficient-c.ensures ∙ e) in
    on_ok_weaker c.add_term.result
    (λ added. added ∙ ((λ i. plus_term text_cmp old (c.in_ok-copied.ensures i, c.coefficient-c.ensures i)) ∙ ap (λ (us : Terms). plus text_cmp old us) (sym (other_stays t some))))
    c.add_term.ensures
