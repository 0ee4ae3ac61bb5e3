use Rattle.net_aiger.proofs.ValueLemmas.{conjunctions}
use Rattle.net_aiger.proofs.laws.ands_are_conjunctions.Goals as goal

pub returns : goal.returns
returns c = conjunctions
