use Rattle.net_core.proofs.OrderLemmas.{HasKeys}
use Rattle.net_core.proofs.level_order.keys.Given as goal

abbrev pub invariant-loop-position : goal.invariant-loop-position
invariant-loop-position l = HasKeys l.net l.levels l.position l.keys.items
