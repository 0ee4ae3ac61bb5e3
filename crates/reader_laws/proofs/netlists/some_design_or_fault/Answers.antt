use Rattle.reader_laws.proofs.BlifExists.{some_design}
use Rattle.reader_laws.proofs.netlists.some_design_or_fault.Goals as goal

pub returns : goal.returns
returns c = some_design
