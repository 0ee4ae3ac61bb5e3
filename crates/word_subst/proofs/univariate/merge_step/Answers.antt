use Rattle.std.proofs.Common.{sym, ap, ◌∙◌}
use Rattle.poly_mixed.proofs.FieldLaws.{field_of}
use Rattle.word_subst.proofs.UnivariateLemmas.{step_left, step_right, step_both, step_none}
use Rattle.word_subst.proofs.univariate.merge_step.Goals.{then-c-d+in_ok-push-in-Equal, else-c-d}
use Rattle.word_subst.proofs.univariate.merge_step.Goals as goal

pub returns-in_ok-push-in-Less : goal.returns-in_ok-push-in-Less
returns-in_ok-push-in-Less g c =
    step_left (field_of _ _ (g.met.F.Ring.laws c.args._field.now) (g.met.F.Field.no_zero_divisors c.args._field.now)) c.args.left.now c.args.right.now c.args.sum.now.items c.push.new.self.items c.args.i c.args.j c.requires.left c.requires.right
    c.requires.merging (sym c.in-Less.ensures) c.in_ok-push-in-Less.ensures.items

pub returns-in_ok-push-in-Greater : goal.returns-in_ok-push-in-Greater
returns-in_ok-push-in-Greater g c =
    step_right (field_of _ _ (g.met.F.Ring.laws c.args._field.now) (g.met.F.Field.no_zero_divisors c.args._field.now)) c.args.left.now c.args.right.now c.args.sum.now.items c.push-in-Greater.new.self.items c.args.i c.args.j c.requires.left c.requires.right
    c.requires.merging (sym c.in-Greater.ensures) c.in_ok-push-in-Greater.ensures.items

pub returns-after-c-d : goal.returns-after-c-d
returns-after-c-d g c = elim c.if-c-d.branch [
  | then-c-d+in_ok-push-in-Equal w ↦
      step_both (field_of _ _ (g.met.F.Ring.laws c.args._field.now) (g.met.F.Field.no_zero_divisors c.args._field.now)) c.args.left.now c.args.right.now c.args.sum.now.items c.if-c-d.sum.items c.args.i c.args.j c.requires.left c.requires.right
      c.requires.merging (sym c.in-Equal.ensures) w.if-c-d.true (ap (λ v. v.items) w.sum-is ∙ w.in_ok-push-in-Equal.ensures.items)
  | else-c-d w ↦
      step_none (field_of _ _ (g.met.F.Ring.laws c.args._field.now) (g.met.F.Field.no_zero_divisors c.args._field.now)) c.args.left.now c.args.right.now c.args.sum.now.items c.if-c-d.sum.items c.args.i c.args.j c.requires.left c.requires.right
      c.requires.merging (sym c.in-Equal.ensures) w.if-c-d.false (ap (λ v. v.items) w.sum-is)
]
