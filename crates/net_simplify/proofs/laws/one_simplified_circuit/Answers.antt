use Rattle.net_simplify.proofs.CircuitLemmas.{circuit_one}
use Rattle.net_simplify.proofs.laws.one_simplified_circuit.Goals as goal

pub returns : goal.returns
returns c = circuit_one
