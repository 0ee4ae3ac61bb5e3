use Rattle.gf_abs.proofs.CheckHeadlineLemmas.{check_rejects}
use Rattle.gf_abs.proofs.headline.check_prints_the_differing_input.Goals as goal

pub returns : goal.returns
returns c = check_rejects
