use Rattle.gf_iso.proofs.ImageLemmas.{HasImages-iso}
use Rattle.gf_iso.proofs.laws.basis_of_images.Goals as goal

pub returns : goal.returns
returns c = λ there back iso. HasImages-iso _ _ _ there back iso.isomorphism
