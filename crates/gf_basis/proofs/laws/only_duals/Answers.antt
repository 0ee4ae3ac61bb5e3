use Rattle.gf_basis.proofs.BasisLaws.{dual_unique}
use Rattle.gf_basis.proofs.laws.only_duals.Goals as goal

pub returns : goal.returns
returns g c = dual_unique _ _ (g.met.F.Ring.laws c.args._field.now) (g.met.F.Field.no_zero_divisors c.args._field.now)
