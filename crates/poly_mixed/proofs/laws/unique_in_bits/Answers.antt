use Rattle.poly_mixed.proofs.FieldLaws.{field_of}
use Rattle.poly_mixed.proofs.UniquenessLemmas.{unique_in_bits}
use Rattle.poly_mixed.proofs.laws.unique_in_bits.Goals as goal

pub returns : goal.returns
returns g c = unique_in_bits (field_of _ _ (g.met.F.Ring.laws c.args._field.now) (g.met.F.Field.no_zero_divisors c.args._field.now))
