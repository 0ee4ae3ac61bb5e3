use Rattle.job_input.proofs.TableDetermined.{table_determined}
use Rattle.job_input.proofs.laws.one_table_file_or_fault.Goals as goal

pub returns : goal.returns
returns c = table_determined
