use Rattle.gf_abs.proofs.IsoHeadlineLemmas.{iso_prints}
use Rattle.gf_abs.proofs.headline.iso_prints_the_images.Goals as goal

pub returns : goal.returns
returns c = iso_prints
