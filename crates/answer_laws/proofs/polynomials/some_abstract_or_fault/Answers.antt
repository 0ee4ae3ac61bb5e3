use Rattle.answer_laws.proofs.PolynomialsExist.{some_abstract}
use Rattle.answer_laws.proofs.polynomials.some_abstract_or_fault.Goals as goal

pub returns : goal.returns
returns c = λ held bytes setting is net bound cycles simple. some_abstract held bytes setting is net bound cycles simple
