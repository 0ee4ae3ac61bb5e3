use Rattle.compose_polys.proofs.AfterLemmas.{level_arranged}
use Rattle.compose_polys.proofs.order_laws.level_orders_are_arranged.Goals as goal

pub returns : goal.returns
returns c = level_arranged
