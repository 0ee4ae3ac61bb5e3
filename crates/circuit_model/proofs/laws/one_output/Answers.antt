use Rattle.circuit_model.proofs.OutLemmas.{job_some_out, job_one_out}
use Rattle.circuit_model.proofs.laws.one_output.Goals as goal

pub returns-clause-some : goal.returns-clause-some
returns-clause-some c = job_some_out

pub returns-clause-only : goal.returns-clause-only
returns-clause-only c = job_one_out
