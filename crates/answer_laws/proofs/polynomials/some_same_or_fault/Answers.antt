use Rattle.answer_laws.proofs.SameExists.{some_same}
use Rattle.answer_laws.proofs.polynomials.some_same_or_fault.Goals as goal

pub returns : goal.returns
returns c = λ held bytes setting is net other bound cycles simple. some_same held bytes setting is net other bound cycles simple
