use Rattle.stage_model.proofs.CutLemmas.{some_cut, one_cut}
use Rattle.stage_model.proofs.laws.one_element_a_cut.Goals as goal

pub returns-clause-some : goal.returns-clause-some
returns-clause-some c = λ circuit t p well. some_cut circuit well t p

pub returns-clause-only : goal.returns-clause-only
returns-clause-only c = λ circuit t p e other well a b. one_cut circuit well t p e other a b
