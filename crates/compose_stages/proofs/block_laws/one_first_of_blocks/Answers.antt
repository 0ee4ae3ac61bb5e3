use Rattle.compose_stages.proofs.UsedLemmas.{first_block_not_all, one_first_block}
use Rattle.compose_stages.proofs.block_laws.one_first_of_blocks.Goals as goal

pub returns-clause-only : goal.returns-clause-only
returns-clause-only c = λ k mul h bound over name other m n x y. one_first_block k mul h over.ring over.no_zero_divisors over.given bound name other m n x y

pub returns-clause-not_all : goal.returns-clause-not_all
returns-clause-not_all c = λ k mul h bound over name n x all. first_block_not_all k mul h over.ring over.no_zero_divisors over.given bound name n x all
