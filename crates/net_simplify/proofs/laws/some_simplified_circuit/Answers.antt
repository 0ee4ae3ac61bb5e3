use Rattle.net_simplify.proofs.CircuitLemmas.{circuit_some}
use Rattle.net_simplify.proofs.laws.some_simplified_circuit.Goals as goal

pub returns : goal.returns
returns c = circuit_some
