use Rattle.stage_model.proofs.CircuitListingLemmas.{some_stage, one_stage}
use Rattle.stage_model.proofs.stage_laws.one_element_a_stage.Goals as goal

pub returns-clause-some : goal.returns-clause-some
returns-clause-some c = λ circuit well name listed p at. some_stage circuit well name p at listed

pub returns-clause-only : goal.returns-clause-only
returns-clause-only c = λ circuit name p well at e other a b. one_stage circuit well name p e other at a b
