use Rattle.graph_core.proofs.LawLemmas.{is_only}
use Rattle.graph_core.proofs.laws.cycle_of_roots_is_the_only_one.Goals as goal

pub returns : goal.returns
returns c = is_only
