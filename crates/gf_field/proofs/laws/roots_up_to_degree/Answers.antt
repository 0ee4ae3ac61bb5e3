use Rattle.gf_field.specs.laws.RootsLaws.{HasRootsUpToDegree-from_field}
use Rattle.gf_field.proofs.laws.roots_up_to_degree.Goals as goal

pub returns : goal.returns
returns g c = HasRootsUpToDegree-from_field _ _ (g.met.F.Ring.laws c.args._field.now) (g.met.F.Field.no_zero_divisors c.args._field.now)
