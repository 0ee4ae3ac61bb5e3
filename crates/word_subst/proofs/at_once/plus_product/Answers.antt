use Rattle.std.proofs.lemmas.Result.{IfOk-weaker}
use Rattle.poly_mixed.proofs.FieldLaws.{field_of}
use Rattle.std.proofs.Common.{[]}
use Rattle.word_subst.proofs.ReadFromLemmas.{sum_and_product}
use Rattle.word_subst.proofs.at_once.plus_product.Goals as goal

pub returns : goal.returns
returns g c =
    let f = field_of _ _ (g.met.F.Ring.laws c.args.field.now) (g.met.F.Field.no_zero_divisors c.args.field.now) in
    IfOk-weaker c.plus.result _ _ (λ s e. sum_and_product f [] 0 c.args.low.now c.args.high.now c.args.form.now c.in_ok-times.times s c.in_ok-times.ensures e) c.plus.ensures
