use Rattle.circuit_model.specs.Out.{IsOut}
use Rattle.circuit_model.proofs.DifferingLemmas.{one_differing}
use Rattle.circuit_model.proofs.OutLemmas.{one_out}
use Rattle.circuit_model.proofs.laws.one_differing_input.Goals as goal

pub returns : goal.returns
returns c = λ circuit other well more. one_differing circuit (IsOut circuit) (IsOut other) well (λ xs e f. one_out circuit xs e f well) (λ xs e f. one_out other xs e f more)
