use Rattle.gf_field.specs.laws.TraceLaws.{IsTrace-from_field}
use Rattle.gf_field.proofs.laws.trace_onto_bits.Goals as goal

pub returns : goal.returns
returns g c = IsTrace-from_field _ _ (g.met.F.Ring.laws c.args._field.now) (g.met.F.Field.no_zero_divisors c.args._field.now)
