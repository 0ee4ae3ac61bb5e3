use Rattle.std.proofs.Common.{◌+◌, drop, subst, [], ◌∷◌, ap, sym, ◌∙◌}
use Rattle.std.specs.List.{AllByRecursion}
use Rattle.lists.specs.laws.TakeLaws.{drop_read}
use Rattle.poly_mixed.specs.Monomial.{Monomial, text_cmp}
use Rattle.poly_mixed.specs.Polynomial.{Terms}
use Rattle.poly_mixed.specs.Sum.{plus}
use Rattle.rato_reduce.specs.private.CutTerms.{IsBitTerm}
use Rattle.rato_reduce.proofs.CutPartLemmas.{step_terms}
use Rattle.rato_reduce.proofs.cut.Cut.add_all.Goals as goal

pub loop-term-preserved : goal.loop-term-preserved
loop-term-preserved c =
    let terms = c.args.terms.now in
    let i = c.loop-term.term-index in
    let t = c.term-item.result in
    let next = drop_read terms i t c.loop-term-test.true c.term-item.is in
    let P : Terms → Type 0 = AllByRecursion IsBitTerm in
    let each = subst P next c.loop-term.invariant.each in
    record {
      each = each.1;
      sum = step_terms c.loop-term.self.terms c.add_same.new.self.terms _ t (drop i terms) (drop (i + 1) terms) next c.loop-term.invariant.sum (c.in_ok-add_same.ensures ∙ ap (λ (m : Monomial). plus text_cmp c.loop-term.self.terms ((m, t.1) ∷ [])) (sym each.0.no_words));
    }

pub add_same-requires : goal.add_same-requires
add_same-requires c =
    let next = drop_read c.args.terms.now c.loop-term.term-index c.term-item.result c.loop-term-test.true c.term-item.is in
    let P : Terms → Type 0 = AllByRecursion IsBitTerm in
    (subst P next c.loop-term.invariant.each).0
