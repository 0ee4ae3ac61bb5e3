use Rattle.make_laws.proofs.ProductBitLemmas.{product_bits}
use Rattle.make_laws.proofs.product_laws.product_bits.Goals as goal

pub returns : goal.returns
returns c = product_bits _ _ c.args._ring.now.fits
