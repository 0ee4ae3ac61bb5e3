use Rattle.std.proofs.Common.{sym, subst, ℕ, ◌≤◌, length, arith}
use Rattle.poly_mixed.proofs.FieldLaws.{field_of}
use Rattle.word_subst.specs.Univariate.{Powers}
use Rattle.word_subst.specs.Merge.{IsMerging}
use Rattle.word_subst.proofs.UnivariateLemmas.{merged, closer}
use Rattle.word_subst.proofs.univariate.Univariate.plus.Goals.{then-loop-i-test+else-j-right, else-loop-i-test}
use Rattle.word_subst.proofs.univariate.Univariate.plus.Goals as goal

pub returns : goal.returns
returns g c =
    merged (field_of _ _ (g.met.F.Ring.laws c.args._field.now) (g.met.F.Field.no_zero_divisors c.args._field.now)) c.args.self.now c.args.other.now c.powers-left.result.now c.powers-right.result.now c.loop-i.sum.items c.extend_from_slice.new.self.items c.extend_from_slice-2.new.self.items c.loop-i.i c.loop-i.j c.powers-left.ensures c.powers-right.ensures
    (λ more_left more_right. elim c.loop-i-test.branch [
      | then-loop-i-test+else-j-right w ↦ absurd (omega (arith, w.if-j-right.false, more_right))
      | else-loop-i-test w ↦ absurd (omega (arith, w.loop-i-test.false, more_left))
    ]) c.loop-i.invariant c.in_ok-extend_from_slice.ensures.items c.in_ok-extend_from_slice-2.ensures.items

pub merge_step-requires-clause-merging : goal.merge_step-requires-clause-merging
merge_step-requires-clause-merging g c =
    let k : ℕ = g.F.Ring.degree c.args._field.now in
    let mul : ℕ → ℕ → ℕ = g.F.Ring.product c.args._field.now in
    let P : Powers → Type 0 = λ us. IsMerging k mul us c.args.other.now c.loop-i.i c.loop-i.j c.loop-i.sum.items in
    let Q : Powers → Type 0 = λ vs. IsMerging k mul c.powers-left.result.now vs c.loop-i.i c.loop-i.j c.loop-i.sum.items in
    subst Q (sym c.powers-right.ensures) (subst P (sym c.powers-left.ensures) c.loop-i.invariant)

pub loop-i-preserved : goal.loop-i-preserved
loop-i-preserved g c =
    let k : ℕ = g.F.Ring.degree c.args._field.now in
    let mul : ℕ → ℕ → ℕ = g.F.Ring.product c.args._field.now in
    let P : Powers → Type 0 = λ us. IsMerging k mul us c.powers-right.result.now c.in_ok-next.next.0 c.in_ok-next.next.1 c.merge_step.new.sum.items in
    let Q : Powers → Type 0 = λ vs. IsMerging k mul c.args.self.now vs c.in_ok-next.next.0 c.in_ok-next.next.1 c.merge_step.new.sum.items in
    subst Q c.powers-right.ensures (subst P c.powers-left.ensures c.in_ok-next.ensures.merging)

pub loop-i-smaller : goal.loop-i-smaller
loop-i-smaller g c =
    let P : Powers → Type 0 = λ us. c.in_ok-next.next.0 ≤ length us in
    let Q : Powers → Type 0 = λ vs. c.in_ok-next.next.1 ≤ length vs in
    closer (length c.args.self.now) (length c.args.other.now) c.loop-i.i c.loop-i.j c.in_ok-next.next.0 c.in_ok-next.next.1 (subst P c.powers-left.ensures c.in_ok-next.ensures.merging.left) (subst Q c.powers-right.ensures c.in_ok-next.ensures.merging.right) c.in_ok-next.ensures.more
