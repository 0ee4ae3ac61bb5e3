use Rattle.circuit_model.proofs.DifferingLemmas.{ordered}
use Rattle.circuit_model.proofs.laws.one_first_input.Goals as goal

pub returns : goal.returns
returns c = ordered
