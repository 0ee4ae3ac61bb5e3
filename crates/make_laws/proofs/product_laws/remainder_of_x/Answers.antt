use Rattle.make_laws.proofs.IndeterminateLemmas.{x_is_remainder}
use Rattle.make_laws.proofs.product_laws.remainder_of_x.Goals as goal

pub returns : goal.returns
returns c = x_is_remainder _ _ c.args._ring.now.fits
