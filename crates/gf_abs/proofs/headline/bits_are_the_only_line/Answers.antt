use Rattle.gf_abs.proofs.BitsHeadlineLemmas.{bits_only}
use Rattle.gf_abs.proofs.headline.bits_are_the_only_line.Goals as goal

pub returns : goal.returns
returns c = bits_only
