use Rattle.circuit_model.proofs.OutLemmas.{job_open_out}
use Rattle.circuit_model.proofs.laws.output_of_open_runs.Goals as goal

pub returns : goal.returns
returns c = job_open_out
