use Rattle.graph_core.proofs.LawLemmas.{leads_to_no_cycle}
use Rattle.graph_core.proofs.laws.grounded_leads_to_no_cycle.Goals as goal

pub returns : goal.returns
returns c = leads_to_no_cycle
