use Rattle.gf_tower.specs.laws.TowerLaws.{field_by_polynomial}
use Rattle.gf_tower.proofs.laws.irreducible_tower.Goals as goal

pub returns : goal.returns
returns g c = field_by_polynomial _ _ _ _ c.args._tower.now.fits _ (g.met.F.Ring.laws c.args._tower.now.base) (g.met.F.Field.no_zero_divisors c.args._tower.now.base)
