use Rattle.gf_field.specs.laws.QuotientRingLaws.{HasQuotientRings-from_ring}
use Rattle.gf_field.proofs.laws.quotient_rings.Goals as goal

pub returns : goal.returns
returns g c = HasQuotientRings-from_ring _ _ (g.met.R.Ring.laws c.args._ring.now)
