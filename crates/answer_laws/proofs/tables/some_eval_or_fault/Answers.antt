use Rattle.answer_laws.proofs.TablesExist.{some_eval}
use Rattle.answer_laws.proofs.tables.some_eval_or_fault.Goals as goal

pub returns : goal.returns
returns c = λ held bytes setting is net values cycles. some_eval held bytes setting is net values cycles
