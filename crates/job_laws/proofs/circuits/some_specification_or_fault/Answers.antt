use Rattle.job_laws.proofs.FileExists.{some_specification}
use Rattle.job_laws.proofs.circuits.some_specification_or_fault.Goals as goal

pub returns : goal.returns
returns c = some_specification
