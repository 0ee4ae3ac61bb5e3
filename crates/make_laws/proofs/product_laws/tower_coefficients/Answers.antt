use Rattle.make_laws.proofs.TowerLemmas.{tower_coefficients}
use Rattle.make_laws.proofs.product_laws.tower_coefficients.Goals as goal

pub returns : goal.returns
returns g c =
    let tower = c.args._tower.now in
    tower_coefficients _ _ tower.low _ tower.fits _ (g.met.F.Ring.laws tower.base)
