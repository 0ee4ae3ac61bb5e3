use Rattle.circuit_model.proofs.TakenLemmas.{taken_job}
use Rattle.circuit_model.proofs.laws.taken_circuits_are_jobs.Goals as goal

pub returns : goal.returns
returns c = λ based cycles is. taken_job based.k based.product based.netlist is.words is.feeds based.bases cycles is.ring is.no_zero_divisors is.sound is.words_are is.feeds_are is.bound is.long is.each
