use Rattle.make_laws.proofs.NormalLemmas.{normal_products}
use Rattle.make_laws.proofs.register_laws.turning_registers_hold_the_product.Goals as goal

pub returns : goal.returns
returns g c = normal_products _ _ (g.met.F.Ring.laws c.args._field.now) (g.met.F.Field.no_zero_divisors c.args._field.now)
