use Rattle.gf_field.specs.laws.FermatLaws.{power_same}
use Rattle.gf_field.proofs.laws.own_power.Goals as goal

pub returns : goal.returns
returns g c = power_same _ _ (g.met.F.Ring.laws c.args._field.now) (g.met.F.Field.no_zero_divisors c.args._field.now)
