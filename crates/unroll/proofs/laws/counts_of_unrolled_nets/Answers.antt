use Rattle.unroll.proofs.UnrolledLemmas.{gates_of_unrolled, nets_of_unrolled}
use Rattle.unroll.proofs.laws.counts_of_unrolled_nets.Goals as goal

pub returns-clause-nets : goal.returns-clause-nets
returns-clause-nets c = nets_of_unrolled

pub returns-clause-gates : goal.returns-clause-gates
returns-clause-gates c = gates_of_unrolled
