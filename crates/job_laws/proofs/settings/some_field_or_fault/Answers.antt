use Rattle.job_laws.proofs.FieldExists.{some_field}
use Rattle.job_laws.proofs.settings.some_field_or_fault.Goals as goal

pub returns : goal.returns
returns c = some_field
