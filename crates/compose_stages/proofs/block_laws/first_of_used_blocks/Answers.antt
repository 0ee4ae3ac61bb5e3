use Rattle.compose_stages.proofs.UsedLemmas.{block_over, blocks_within, over_block}
use Rattle.compose_stages.proofs.block_laws.first_of_used_blocks.Goals as goal

pub returns-clause-made : goal.returns-clause-made
returns-clause-made c = λ k mul h bound n name is. block_over k mul h bound name.0 name.1 n is.0 is.1 is.2 is.3

pub returns-clause-read : goal.returns-clause-read
returns-clause-read c = λ k mul h bound n name over. over_block k mul h bound name.0 name.1 n over

pub returns-clause-within : goal.returns-clause-within
returns-clause-within c = λ k mul h bound. blocks_within k mul h bound
