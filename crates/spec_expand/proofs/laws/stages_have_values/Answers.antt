use Rattle.spec_expand.proofs.StageValueLemmas.{some_stage, only_stage}
use Rattle.spec_expand.proofs.laws.stages_have_values.Goals as goal

pub returns-clause-some : goal.returns-clause-some
returns-clause-some c = λ circuit spec well name listed p at. some_stage circuit well spec name p at listed

pub returns-clause-only : goal.returns-clause-only
returns-clause-only c = λ circuit spec name p well. only_stage circuit well spec name p
