use Rattle.compose_stages.proofs.LevelLemmas.{instance_levels}
use Rattle.compose_stages.proofs.OrderLemmas.{no_cycle}
use Rattle.compose_stages.proofs.instance_laws.cycles_have_no_levels.Goals as goal

pub returns-clause-free : goal.returns-clause-free
returns-clause-free c = no_cycle

pub returns-clause-levels : goal.returns-clause-levels
returns-clause-levels c = instance_levels
