use Rattle.job_laws.proofs.FileExists.{some_table_in}
use Rattle.job_laws.proofs.circuits.some_table_file_or_fault.Goals as goal

pub returns : goal.returns
returns c = some_table_in
