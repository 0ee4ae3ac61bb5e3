use Rattle.make_laws.proofs.ProductBitLemmas.{square_bits}
use Rattle.make_laws.proofs.product_laws.square_bits.Goals as goal

pub returns : goal.returns
returns c = square_bits _ _ c.args._ring.now.fits
