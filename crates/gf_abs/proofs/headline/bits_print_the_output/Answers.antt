use Rattle.gf_abs.proofs.BitsHeadlineLemmas.{bits_print}
use Rattle.gf_abs.proofs.headline.bits_print_the_output.Goals as goal

pub returns : goal.returns
returns c = bits_print
