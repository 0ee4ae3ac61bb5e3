use Rattle.gf_iso.proofs.ImageLemmas.{KeepsBases-iso}
use Rattle.gf_iso.proofs.laws.kept_bases.Goals as goal

pub returns : goal.returns
returns c = λ there back iso. KeepsBases-iso _ _ _ there back iso.isomorphism
