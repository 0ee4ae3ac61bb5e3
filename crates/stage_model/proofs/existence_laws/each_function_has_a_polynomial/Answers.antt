use Rattle.stage_model.proofs.FunctionLemmas.{function_polynomial}
use Rattle.stage_model.proofs.existence_laws.each_function_has_a_polynomial.Goals as goal

pub returns : goal.returns
returns c = λ field words ranks h few is. function_polynomial field.k field.product field.ring field.no_zero_divisors words ranks h few is
