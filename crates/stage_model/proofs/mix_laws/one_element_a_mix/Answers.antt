use Rattle.stage_model.proofs.MixLemmas.{some_mix, one_mix}
use Rattle.stage_model.proofs.mix_laws.one_element_a_mix.Goals as goal

pub returns-clause-some : goal.returns-clause-some
returns-clause-some c = λ circuit w p well at. some_mix circuit well w p at

pub returns-clause-only : goal.returns-clause-only
returns-clause-only c = λ circuit w p e other well a b. one_mix circuit well w p e other a b
