use Rattle.answer_laws.proofs.TablesExist.{some_lift}
use Rattle.answer_laws.proofs.tables.some_lift_or_fault.Goals as goal

pub returns : goal.returns
returns c = λ held bytes setting is file. some_lift held bytes setting is file
