use Rattle.net_core.proofs.LawLemmas.{order_only}
use Rattle.net_core.proofs.laws.order_is_the_only_one.Goals as goal

pub returns : goal.returns
returns c = order_only
