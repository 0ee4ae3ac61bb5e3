use Rattle.std.proofs.lemmas.Result.{IfOk-weaker}
use Rattle.poly_mixed.proofs.FieldLaws.{field_of}
use Rattle.word_subst.proofs.MultipleLemmas.{product_swapped}
use Rattle.word_subst.proofs.multiple.product.Goals as goal

pub returns-then-len : goal.returns-then-len
returns-then-len g c =
    IfOk-weaker c.sum_of_multiples.result _ _ (λ u e. product_swapped (field_of _ _ (g.met.F.Ring.laws c.args.field.now) (g.met.F.Field.no_zero_divisors c.args.field.now)) c.args.left.now c.args.right.now u c.requires.left c.requires.right e) c.sum_of_multiples.ensures
