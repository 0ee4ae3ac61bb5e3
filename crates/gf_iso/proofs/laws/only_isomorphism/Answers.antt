use Rattle.gf_iso.proofs.FieldsLaws.{only_for}
use Rattle.gf_iso.proofs.laws.only_isomorphism.Goals as goal

pub returns : goal.returns
returns c =
    let tower = c.args._tower.now in
    only_for _ _ tower.ring.length tower.ring.low tower.ring.base.ring.fits c.requires.small tower.ring.base.no_zero_divisors c.requires.two _ _ tower.ring.fits tower.no_zero_divisors
