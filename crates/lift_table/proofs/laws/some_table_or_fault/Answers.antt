use Rattle.lift_table.proofs.ExistsLemmas.{some_table}
use Rattle.lift_table.proofs.laws.some_table_or_fault.Goals as goal

pub returns : goal.returns
returns c = some_table
