use Rattle.gf_abs.proofs.OneLineLemmas.{answers_one_line}
use Rattle.gf_abs.proofs.StatusLemmas.{answer_status, fault_statuses}
use Rattle.gf_abs.proofs.headline.each_fault_is_one_line.Goals as goal

pub returns-clause-reply : goal.returns-clause-reply
returns-clause-reply c = answer_status

pub returns-clause-status : goal.returns-clause-status
returns-clause-status c = fault_statuses

pub returns-clause-line : goal.returns-clause-line
returns-clause-line c = answers_one_line
