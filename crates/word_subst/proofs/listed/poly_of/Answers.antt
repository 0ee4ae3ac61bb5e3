use Rattle.std.proofs.Common.{◌≡◌, ◌∙◌, ap, sym, [], drop, drop_of_length-le, arith}
use Rattle.poly_mixed.specs.Monomial.{text_cmp}
use Rattle.poly_mixed.specs.Polynomial.{Terms}
use Rattle.poly_mixed.specs.Sum.{plus}
use Rattle.poly_mixed.proofs.ValueLemmas.{plus_nothing}
use Rattle.word_subst.proofs.listed.poly_of.Goals as goal

pub returns : goal.returns
returns c =
    let ts : Terms = c.args.terms.now in
    let past : drop c.loop-term.term-index ts ≡ [] = drop_of_length-le ts {i = c.loop-term.term-index} (omega (arith, c.loop-term-test.false)) in
    ap (λ (us : Terms). plus text_cmp c.loop-term.poly.terms us) (sym past) ∙ c.loop-term.invariant ∙ plus_nothing ts c.requires
