use Rattle.gf_abs.proofs.SameHeadlineLemmas.{same_status, same_equal, same_text}
use Rattle.gf_abs.proofs.headline.same_exactly_if_equal_functions.Goals as goal

pub returns-clause-status : goal.returns-clause-status
returns-clause-status c = same_status

pub returns-clause-equal : goal.returns-clause-equal
returns-clause-equal c = same_equal

pub returns-clause-text : goal.returns-clause-text
returns-clause-text c = same_text
