use Rattle.answer_laws.proofs.PolynomialsExist.{some_bits}
use Rattle.answer_laws.proofs.polynomials.some_bits_or_fault.Goals as goal

pub returns : goal.returns
returns c = λ held bytes setting is net bound cycles simple. some_bits held bytes setting is net bound cycles simple
