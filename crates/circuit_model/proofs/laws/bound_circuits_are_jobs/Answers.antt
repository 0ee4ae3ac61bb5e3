use Rattle.circuit_model.proofs.JobBoundLemmas.{job_well, job_nets_of, job_count_of}
use Rattle.circuit_model.proofs.laws.bound_circuits_are_jobs.Goals as goal

pub returns-clause-job : goal.returns-clause-job
returns-clause-job c = λ based cycles is. job_well based.k based.product based.netlist based.bases cycles is.bound is.bits is.have is.sound is.ring is.no_zero_divisors

pub returns-clause-bits : goal.returns-clause-bits
returns-clause-bits c = job_nets_of

pub returns-clause-count : goal.returns-clause-count
returns-clause-count c = job_count_of
