use Rattle.net_core.proofs.ExistLemmas.{sound_levels}
use Rattle.net_core.proofs.laws.sound_net_has_levels.Goals as goal

pub returns : goal.returns
returns c = sound_levels
