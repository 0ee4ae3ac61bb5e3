use Rattle.make_laws.proofs.DigitLemmas.{digit_products}
use Rattle.make_laws.proofs.register_laws.fed_registers_hold_the_product.Goals as goal

pub returns : goal.returns
returns g c = digit_products _ _ (g.met.R.Ring.laws c.args._ring.now)
