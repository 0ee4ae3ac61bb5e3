use Rattle.gf_field.specs.laws.IrreducibleLaws.{HasQuotientFields-from_field}
use Rattle.gf_field.proofs.laws.quotient_fields.Goals as goal

pub returns : goal.returns
returns g c = HasQuotientFields-from_field _ _ (g.met.F.Ring.laws c.args._field.now) (g.met.F.Field.no_zero_divisors c.args._field.now)
