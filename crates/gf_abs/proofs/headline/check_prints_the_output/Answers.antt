use Rattle.gf_abs.proofs.CheckHeadlineLemmas.{check_accepts}
use Rattle.gf_abs.proofs.headline.check_prints_the_output.Goals as goal

pub returns : goal.returns
returns c = check_accepts
