use Rattle.compose_stages.proofs.BlockLemmas.{one_poly}
use Rattle.compose_stages.proofs.SomeStageLemmas.{some_poly}
use Rattle.compose_stages.proofs.instance_laws.instance_blocks_have_one_polynomial.Goals as goal

pub returns-clause-some : goal.returns-clause-some
returns-clause-some c = λ k mul h i over blocks_are less. some_poly k mul over.ring over.no_zero_divisors h over.given blocks_are i less

pub returns-clause-only : goal.returns-clause-only
returns-clause-only c = λ k mul h n over block other x y. one_poly k mul over.ring over.no_zero_divisors h over.given n block other x y
