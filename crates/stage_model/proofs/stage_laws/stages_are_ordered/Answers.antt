use Rattle.stage_model.proofs.CircuitListingLemmas.{stages_ordered, not_both}
use Rattle.stage_model.proofs.stage_laws.stages_are_ordered.Goals as goal

pub returns-clause-total : goal.returns-clause-total
returns-clause-total c = λ circuit name other a b. stages_ordered circuit name other a b

pub returns-clause-apart : goal.returns-clause-apart
returns-clause-apart c = λ circuit name other a b. not_both circuit name other a b
