use Rattle.std.proofs.lemmas.Result.{IfOk-weaker}
use Rattle.poly_mixed.proofs.FieldLaws.{field_of}
use Rattle.poly_mixed.proofs.ValueLemmas.{one_element}
use Rattle.poly_mixed.proofs.SimpleLemmas.{bit_product}
use Rattle.poly_mixed.proofs.table.bit_times.Goals as goal

pub scaled_bit-requires : goal.scaled_bit-requires
scaled_bit-requires g c = one_element (field_of _ _ (g.met.F.Ring.laws c.args.field.now) (g.met.F.Field.no_zero_divisors c.args.field.now))

pub returns-clause-values : goal.returns-clause-values
returns-clause-values g c =
    IfOk-weaker c.mul.result _ _ (λ q times. bit_product (field_of _ _ (g.met.F.Ring.laws c.args.field.now) (g.met.F.Field.no_zero_divisors c.args.field.now)) c.args.rank c.in_ok-bit.bit.terms c.args.change.now.terms q.terms c.in_ok-bit.ensures times) c.mul.ensures.values
