use Rattle.compose_polys.proofs.StageLemmas.{only_stage, some_stage}
use Rattle.compose_polys.proofs.instance_laws.instance_stages_have_values.Goals as goal

pub returns-clause-some : goal.returns-clause-some
returns-clause-some c = λ k mul feeds i block ring. some_stage k mul ring feeds i block

pub returns-clause-only : goal.returns-clause-only
returns-clause-only c = λ mul feeds block name p. only_stage mul feeds block name p
