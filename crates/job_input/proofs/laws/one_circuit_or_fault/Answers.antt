use Rattle.job_input.proofs.CycleLemmas.{circuit_determined}
use Rattle.job_input.proofs.laws.one_circuit_or_fault.Goals as goal

pub returns : goal.returns
returns c = circuit_determined
