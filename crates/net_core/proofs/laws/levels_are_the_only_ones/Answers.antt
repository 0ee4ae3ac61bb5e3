use Rattle.net_core.proofs.LawLemmas.{levels_only}
use Rattle.net_core.proofs.laws.levels_are_the_only_ones.Goals as goal

pub returns : goal.returns
returns c = levels_only
