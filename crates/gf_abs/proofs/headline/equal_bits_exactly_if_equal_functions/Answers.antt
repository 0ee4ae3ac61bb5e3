use Rattle.gf_abs.proofs.BitsHeadlineLemmas.{bits_equal}
use Rattle.gf_abs.proofs.headline.equal_bits_exactly_if_equal_functions.Goals as goal

pub returns : goal.returns
returns c = bits_equal
