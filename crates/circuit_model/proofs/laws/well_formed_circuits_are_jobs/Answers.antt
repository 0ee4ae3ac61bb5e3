use Rattle.circuit_model.proofs.JobLemmas.{well_formed_job}
use Rattle.circuit_model.proofs.laws.well_formed_circuits_are_jobs.Goals as goal

pub returns : goal.returns
returns c = well_formed_job
