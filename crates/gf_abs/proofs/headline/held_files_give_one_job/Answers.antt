use Rattle.gf_abs.proofs.HeldJobLemmas.{held_is_job, held_one_output, held_output, one_of_held}
use Rattle.gf_abs.proofs.headline.held_files_give_one_job.Goals as goal

pub returns-clause-job : goal.returns-clause-job
returns-clause-job c = held_is_job

pub returns-clause-one : goal.returns-clause-one
returns-clause-one c = one_of_held

pub returns-clause-output : goal.returns-clause-output
returns-clause-output c = held_output

pub returns-clause-one_output : goal.returns-clause-one_output
returns-clause-one_output c = held_one_output
