use Rattle.gf_abs.proofs.HeadlineLemmas.{bytes_only}
use Rattle.gf_abs.proofs.headline.bytes_are_the_only_text.Goals as goal

pub returns : goal.returns
returns c = bytes_only
