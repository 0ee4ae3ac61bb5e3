use Rattle.std.proofs.Common.{◌≡◌, ◌∙◌, ◌∷◌, ◌+◌, ap, sym, ℕ, [], drop, drop_of_length-le, arith}
use Rattle.std.proofs.lemmas.List.{drop_more}
use Rattle.poly_mixed.specs.Monomial.{Monomial, text_cmp}
use Rattle.poly_mixed.specs.Polynomial.{Terms}
use Rattle.poly_mixed.specs.Sum.{plus}
use Rattle.cert_check.specs.private.Waiting.{nonzero_of}
use Rattle.cert_check.proofs.WaitingLemmas.{next_added}
use Rattle.cert_check.proofs.term_map.TermMap.add_summands.Goals as goal

pub loop-summand-preserved : goal.loop-summand-preserved
loop-summand-preserved c =
    let n : ℕ = c.loop-summand.summand-index in
    let ts : Terms = c.args.summands.now in
    let item : Monomial × ℕ = c.summand-item.result in
    let next : drop n ts ≡ item ∷ drop (n + 1) ts = drop_more ts n item c.loop-summand-test.true ∙ ap (λ (t : Monomial × ℕ). t ∷ drop (n + 1) ts) (sym c.summand-item.is) in
    next_added c.loop-summand.self.terms c.add_summand.new.self.terms item (drop n ts) (drop (n + 1) ts) next c.in_ok-add_summand.ensures ∙ c.loop-summand.invariant

pub returns : goal.returns
returns c =
    let ts : Terms = c.args.summands.now in
    let past : drop c.loop-summand.summand-index ts ≡ [] = drop_of_length-le ts {i = c.loop-summand.summand-index} (omega (arith, c.loop-summand-test.false)) in
    ap (λ (us : Terms). plus text_cmp c.loop-summand.self.terms (nonzero_of us)) (sym past) ∙ c.loop-summand.invariant
