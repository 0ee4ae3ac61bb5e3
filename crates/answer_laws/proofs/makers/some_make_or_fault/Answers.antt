use Rattle.answer_laws.proofs.MakeExists.{some_make}
use Rattle.answer_laws.proofs.makers.some_make_or_fault.Goals as goal

pub returns : goal.returns
returns c = λ held bytes setting is kind. some_make bytes setting is kind
