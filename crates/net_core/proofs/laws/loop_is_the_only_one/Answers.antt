use Rattle.net_core.proofs.LoopLemmas.{loop_is_only}
use Rattle.net_core.proofs.laws.loop_is_the_only_one.Goals as goal

pub returns : goal.returns
returns c = loop_is_only
