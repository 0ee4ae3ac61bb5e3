use Rattle.make_laws.proofs.MontgomeryLemmas.{last_coefficient, one_inverse_power}
use Rattle.make_laws.proofs.product_laws.one_inverse_power.Goals as goal

pub returns : goal.returns
returns c =
    let ring = c.args._ring.now in
    one_inverse_power _ _ ring.ring.fits (last_coefficient _ _ ring.ring.fits ring.no_zero_divisors c.requires) ring.no_zero_divisors
