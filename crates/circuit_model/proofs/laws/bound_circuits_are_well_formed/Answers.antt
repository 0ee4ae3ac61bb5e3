use Rattle.circuit_model.proofs.BoundLemmas.{bound_well, count_of, word_nets_of}
use Rattle.circuit_model.proofs.laws.bound_circuits_are_well_formed.Goals as goal

pub returns-clause-well_formed : goal.returns-clause-well_formed
returns-clause-well_formed c = λ based is. bound_well based.k based.product based.netlist based.bases is.bound is.bits is.have is.ring is.no_zero_divisors is.sound

pub returns-clause-bits : goal.returns-clause-bits
returns-clause-bits c = word_nets_of

pub returns-clause-count : goal.returns-clause-count
returns-clause-count c = count_of
