use Rattle.job_laws.proofs.CircuitExists.{some_hierarchy}
use Rattle.job_laws.proofs.circuits.some_hierarchy_or_fault.Goals as goal

pub returns : goal.returns
returns c = some_hierarchy
