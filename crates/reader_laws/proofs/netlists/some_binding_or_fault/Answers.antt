use Rattle.reader_laws.proofs.BindingExists.{some_binding}
use Rattle.reader_laws.proofs.netlists.some_binding_or_fault.Goals as goal

pub returns : goal.returns
returns c = some_binding
