use Rattle.net_simplify.proofs.CircuitLemmas.{circuit_cycle, circuit_out, circuit_sound}
use Rattle.net_simplify.proofs.laws.simplified_circuits_compute_the_same.Goals as goal

pub returns-clause-sound : goal.returns-clause-sound
returns-clause-sound c = circuit_sound

pub returns-clause-one_cycle : goal.returns-clause-one_cycle
returns-clause-one_cycle c = circuit_cycle

pub returns-clause-output : goal.returns-clause-output
returns-clause-output c = λ circuit simple sound is k product bases xs e. circuit_out k product circuit simple bases xs e sound is
