use Rattle.mult_normal.proofs.CoordinateLemmas.{coordinates_are}
use Rattle.mult_normal.proofs.laws.coordinates_are_bits.Goals as goal

pub returns : goal.returns
returns g c = λ elements x basis below. coordinates_are _ elements basis x below
