use Rattle.net_core.proofs.LoopLemmas.{loop_is_cycle}
use Rattle.net_core.proofs.laws.loop_is_a_cycle.Goals as goal

pub returns : goal.returns
returns c = loop_is_cycle
