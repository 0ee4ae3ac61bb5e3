use Rattle.std.proofs.Common.{sym, subst, ℕ, [], ◌∷◌, Option}
use Rattle.std.specs.Prelude.{IfSome}
use Rattle.std.specs.List.{AllByRecursion}
use Rattle.lists.specs.laws.ListLaws.{all_append}
use Rattle.poly_mixed.specs.Monomial.{Monomial}
use Rattle.poly_mixed.specs.Polynomial.{Terms, IsTerm}
use Rattle.word_subst.specs.Whole.{IsPart}
use Rattle.word_subst.proofs.ReadFromLemmas.{item_at}
use Rattle.word_subst.proofs.whole.parts.Goals as goal

pub loop-term-init : goal.loop-term-init
loop-term-init g c =
    let P : Terms → Type 0 = AllByRecursion (IsPart c.args.word (g.F.Ring.degree c.args.field.now)) in
    subst P (sym c.in_ok-list.ensures.items) tt

pub part-requires-clause-term : goal.part-requires-clause-term
part-requires-clause-term g c = item_at c.args.terms.now c.loop-term.term-index c.term-item.result (IsTerm (g.F.Ring.degree c.args.field.now)) c.loop-term-test.true c.term-item.is c.requires.terms

pub loop-term-preserved : goal.loop-term-preserved
loop-term-preserved g c =
    let k : ℕ = g.F.Ring.degree c.args.field.now in
    let w : ℕ = c.args.word in
    let P : Terms → Type 0 = AllByRecursion (IsPart w k) in
    let O : Option (Monomial × ℕ) → Type 0 = λ o. IfSome o (IsPart w k) in
    let next : IsPart w k c.in-Some.next = subst O c.in-Some.is c.in_ok-next.ensures in
    subst P (sym c.in_ok-push-in-Some.ensures.items) (all_append (IsPart w k) c.loop-term.list.items (c.in-Some.next ∷ []) c.loop-term.invariant (next, tt))

pub returns : goal.returns
returns g c = c.loop-term.invariant
