use Rattle.answer_laws.proofs.ComposeExists.{some_compose}
use Rattle.answer_laws.proofs.compositions.some_compose_or_fault.Goals as goal

pub returns : goal.returns
returns c = λ held bytes setting is net bound. some_compose held bytes setting is net bound
