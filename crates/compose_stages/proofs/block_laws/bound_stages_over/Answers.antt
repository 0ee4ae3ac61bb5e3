use Rattle.compose_stages.proofs.JoinLemmas as join
use Rattle.compose_stages.proofs.block_laws.bound_stages_over.Goals as goal

pub returns-clause-over : goal.returns-clause-over
returns-clause-over c = λ based bound long. join.bound_stages_over based.k based.product based.netlist based.bases long bound

pub returns-clause-within : goal.returns-clause-within
returns-clause-within c = λ based bound long. join.bound_stages_within based.k based.product based.netlist based.bases long bound
