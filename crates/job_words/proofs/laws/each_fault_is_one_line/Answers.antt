use Rattle.job_words.proofs.OneLineLemmas.{one_line}
use Rattle.job_words.proofs.laws.each_fault_is_one_line.Goals as goal

pub returns : goal.returns
returns c = one_line
