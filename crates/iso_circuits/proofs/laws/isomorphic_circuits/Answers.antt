use Rattle.iso_circuits.proofs.CarriedLemmas.{image_outputs, unit_images}
use Rattle.iso_circuits.proofs.laws.isomorphic_circuits.Goals as goal

pub returns-clause-outputs : goal.returns-clause-outputs
returns-clause-outputs c = image_outputs

pub returns-clause-units : goal.returns-clause-units
returns-clause-units c = unit_images
