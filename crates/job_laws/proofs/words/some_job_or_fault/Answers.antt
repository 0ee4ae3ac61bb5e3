use Rattle.job_laws.proofs.JobExists.{some_job}
use Rattle.job_laws.proofs.words.some_job_or_fault.Goals as goal

pub returns : goal.returns
returns c = some_job
