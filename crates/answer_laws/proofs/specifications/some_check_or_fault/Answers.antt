use Rattle.answer_laws.proofs.CheckExists.{some_check}
use Rattle.answer_laws.proofs.specifications.some_check_or_fault.Goals as goal

pub returns : goal.returns
returns c = λ held bytes setting is net specification bound cycles simple. some_check held bytes setting is net specification bound cycles simple
