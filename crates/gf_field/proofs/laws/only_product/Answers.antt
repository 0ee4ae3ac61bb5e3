use Rattle.gf_field.specs.laws.ProductLaws.{HasOnlyProduct-from_ring}
use Rattle.gf_field.proofs.laws.only_product.Goals as goal

pub returns : goal.returns
returns g c = HasOnlyProduct-from_ring _ _ (g.met.R.Ring.laws c.args._ring.now)
