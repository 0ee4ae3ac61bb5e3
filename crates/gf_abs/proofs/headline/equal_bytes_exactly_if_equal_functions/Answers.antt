use Rattle.gf_abs.proofs.HeadlineLemmas.{bytes_equal}
use Rattle.gf_abs.proofs.headline.equal_bytes_exactly_if_equal_functions.Goals as goal

pub returns : goal.returns
returns c = bytes_equal
