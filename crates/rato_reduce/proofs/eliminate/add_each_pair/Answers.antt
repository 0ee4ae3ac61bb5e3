use Rattle.std.proofs.Common.{◌+◌, drop, subst, [], ◌∷◌}
use Rattle.std.specs.List.{AllByRecursion}
use Rattle.lists.specs.laws.TakeLaws.{drop_read}
use Rattle.poly_mixed.specs.Polynomial.{Terms}
use Rattle.rato_reduce.specs.private.CutTerms.{IsBitTerm}
use Rattle.rato_reduce.specs.Monomials.{monomials}
use Rattle.rato_reduce.proofs.CutPartLemmas.{step_products}
use Rattle.rato_reduce.proofs.eliminate.add_each_pair.Goals as goal

pub loop-term-preserved : goal.loop-term-preserved
loop-term-preserved c =
    let part = c.args.part.now in
    let i = c.loop-term.term-index in
    let next = drop_read part i c.term-item.result c.loop-term-test.true c.term-item.is in
    let P : Terms → Type 0 = AllByRecursion IsBitTerm in
    record {
      each = (subst P next c.loop-term.invariant.each).1;
      sum = step_products c.loop-term.cut.terms c.add_pair.new.self.terms _ c.term-item.result (drop i part) (drop (i + 1) part) (monomials c.args.form [] (c.args.first ∷ c.args.second ∷ []) 0 1) next c.loop-term.invariant.sum c.in_ok-add_pair.ensures;
    }

pub add_pair-requires-clause-term : goal.add_pair-requires-clause-term
add_pair-requires-clause-term c =
    let next = drop_read c.args.part.now c.loop-term.term-index c.term-item.result c.loop-term-test.true c.term-item.is in
    let P : Terms → Type 0 = AllByRecursion IsBitTerm in
    (subst P next c.loop-term.invariant.each).0
