use Rattle.answer_polynomials.proofs.EqualLemmas.{well}
use Rattle.gf_abs.proofs.headline.each_taken_circuit_is_well_formed.Goals as goal

pub returns : goal.returns
returns c = λ setting circuit taken. well setting circuit taken
