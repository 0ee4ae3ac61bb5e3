use Rattle.net_core.proofs.ExistLemmas.{sound_some, sound_only}
use Rattle.net_core.proofs.laws.sound_net_has_one_valuation.Goals as goal

pub returns-clause-some : goal.returns-clause-some
returns-clause-some c = sound_some

pub returns-clause-only : goal.returns-clause-only
returns-clause-only c = sound_only
