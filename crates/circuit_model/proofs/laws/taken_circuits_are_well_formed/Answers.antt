use Rattle.circuit_model.proofs.TakenLemmas.{taken_well, bound_long}
use Rattle.circuit_model.proofs.laws.taken_circuits_are_well_formed.Goals as goal

pub returns-clause-well_formed : goal.returns-clause-well_formed
returns-clause-well_formed c = λ based is flat. taken_well based.k based.product based.netlist is.words is.feeds based.bases is.ring is.no_zero_divisors is.sound is.words_are is.feeds_are is.bound flat is.long is.each

pub returns-clause-long : goal.returns-clause-long
returns-clause-long c = bound_long
