use Rattle.make_laws.proofs.TowerBitLemmas.{tower_bits}
use Rattle.make_laws.proofs.product_laws.tower_bits.Goals as goal

pub returns : goal.returns
returns c =
    let tower = c.args._tower.now in
    tower_bits _ _ tower.base.ring.fits _ tower.low _ tower.fits
