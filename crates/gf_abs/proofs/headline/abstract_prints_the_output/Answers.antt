use Rattle.gf_abs.proofs.HeadlineLemmas.{abstract_prints}
use Rattle.gf_abs.proofs.headline.abstract_prints_the_output.Goals as goal

pub returns : goal.returns
returns c = abstract_prints
