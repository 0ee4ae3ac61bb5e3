use Rattle.std.proofs.Common.{◌+◌, drop, subst}
use Rattle.std.specs.List.{AllByRecursion}
use Rattle.lists.specs.laws.TakeLaws.{drop_read}
use Rattle.poly_mixed.specs.Polynomial.{Terms}
use Rattle.rato_reduce.specs.private.CutTerms.{IsBitTerm}
use Rattle.rato_reduce.proofs.CutPartLemmas.{step_terms}
use Rattle.rato_reduce.proofs.listed.added_to.Goals as goal

pub loop-term-preserved : goal.loop-term-preserved
loop-term-preserved c =
    let terms = c.args.terms.now in
    let i = c.loop-term.term-index in
    let t = c.term-item.result in
    let next = drop_read terms i t c.loop-term-test.true c.term-item.is in
    let P : Terms → Type 0 = AllByRecursion IsBitTerm in
    record {
      each = (subst P next c.loop-term.invariant.each).1;
      sum = step_terms c.loop-term.sum.terms c.add_term.new.sum.terms _ t (drop i terms) (drop (i + 1) terms) next c.loop-term.invariant.sum c.in_ok-add_term.ensures;
    }

pub add_term-requires : goal.add_term-requires
add_term-requires c =
    let next = drop_read c.args.terms.now c.loop-term.term-index c.term-item.result c.loop-term-test.true c.term-item.is in
    let P : Terms → Type 0 = AllByRecursion IsBitTerm in
    (subst P next c.loop-term.invariant.each).0
