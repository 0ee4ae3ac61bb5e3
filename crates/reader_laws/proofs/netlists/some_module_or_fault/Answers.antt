use Rattle.reader_laws.proofs.ModuleExists.{some_module}
use Rattle.reader_laws.proofs.netlists.some_module_or_fault.Goals as goal

pub returns : goal.returns
returns c = some_module
