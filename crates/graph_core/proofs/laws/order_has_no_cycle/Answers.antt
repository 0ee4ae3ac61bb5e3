use Rattle.graph_core.proofs.LawLemmas.{arranged_grounded, not_both}
use Rattle.graph_core.proofs.laws.order_has_no_cycle.Goals as goal

pub returns-clause-grounded : goal.returns-clause-grounded
returns-clause-grounded c = arranged_grounded

pub returns-clause-not_both : goal.returns-clause-not_both
returns-clause-not_both c = not_both
