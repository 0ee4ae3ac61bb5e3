use Rattle.job_input.proofs.SpecificationDetermined.{specification_determined}
use Rattle.job_input.proofs.laws.one_specification_or_fault.Goals as goal

pub returns : goal.returns
returns c = specification_determined
