use Rattle.stage_model.proofs.InputPointLemmas.{point_of_input}
use Rattle.stage_model.proofs.output_laws.each_input_has_a_point.Goals as goal

pub returns : goal.returns
returns c = λ circuit xs well input. let made = point_of_input circuit xs well input in (made.0, record { point = made.1; at = made.2; elements = made.3 })
