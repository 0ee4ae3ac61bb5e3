use Rattle.graph_core.proofs.LawLemmas.{is_cycle}
use Rattle.graph_core.proofs.laws.cycle_of_roots_is_a_cycle.Goals as goal

pub returns : goal.returns
returns c = is_cycle
