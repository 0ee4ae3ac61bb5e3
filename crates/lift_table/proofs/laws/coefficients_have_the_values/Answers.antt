use Rattle.lift_table.proofs.InterpolationLemmas.{interpolated}
use Rattle.lift_table.proofs.laws.coefficients_have_the_values.Goals as goal

pub returns : goal.returns
returns g c = λ v x elements less. interpolated (g.F.Ring.degree c.args._field.now) (g.F.Ring.product c.args._field.now) (g.met.F.Ring.laws c.args._field.now) (g.met.F.Field.no_zero_divisors c.args._field.now) v elements x less
