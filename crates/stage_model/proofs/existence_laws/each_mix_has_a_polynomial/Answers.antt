use Rattle.stage_model.proofs.SomeStageLemmas.{mix_polynomial}
use Rattle.stage_model.proofs.existence_laws.each_mix_has_a_polynomial.Goals as goal

pub returns : goal.returns
returns c = λ circuit w well within. mix_polynomial circuit well w within
