use Rattle.answer_laws.proofs.TablesExist.{some_table_answer}
use Rattle.answer_laws.proofs.tables.some_table_or_fault.Goals as goal

pub returns : goal.returns
returns c = λ held bytes setting is net cycles. some_table_answer held bytes setting is net cycles
