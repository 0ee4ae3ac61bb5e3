use Rattle.gf_abs.proofs.CheckHeadlineLemmas.{check_status, check_equal}
use Rattle.gf_abs.proofs.headline.check_accepts_exactly_if_equal.Goals as goal

pub returns-clause-status : goal.returns-clause-status
returns-clause-status c = check_status

pub returns-clause-equal : goal.returns-clause-equal
returns-clause-equal c = check_equal
