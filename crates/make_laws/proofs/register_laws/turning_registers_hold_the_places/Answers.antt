use Rattle.make_laws.proofs.NormalLemmas.{normal_places}
use Rattle.make_laws.proofs.register_laws.turning_registers_hold_the_places.Goals as goal

pub returns : goal.returns
returns g c = normal_places _ _ (g.met.F.Ring.laws c.args._field.now) (g.met.F.Field.no_zero_divisors c.args._field.now)
