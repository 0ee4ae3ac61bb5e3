use Rattle.gf_abs.proofs.LastSumLemmas.{accepted_by_sum, left_of, rejected_by_sum}
use Rattle.gf_abs.proofs.headline.verify_answers_by_the_last_sum.Goals as goal

pub returns-clause-valid : goal.returns-clause-valid
returns-clause-valid c = accepted_by_sum

pub returns-clause-invalid : goal.returns-clause-invalid
returns-clause-invalid c = rejected_by_sum

pub returns-clause-text : goal.returns-clause-text
returns-clause-text c = λ files words signature net certificate bound cycles sum spelled. left_of files words signature net certificate bound cycles spelled sum
