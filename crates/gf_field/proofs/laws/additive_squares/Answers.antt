use Rattle.gf_field.specs.laws.RingLaws.{square-xor}
use Rattle.gf_field.proofs.laws.additive_squares.Goals as goal

pub returns : goal.returns
returns g c = square-xor _ _ (g.met.R.Ring.laws c.args._ring.now)
