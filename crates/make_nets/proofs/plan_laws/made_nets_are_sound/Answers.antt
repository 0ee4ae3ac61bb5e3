use Rattle.make_nets.proofs.SoundLemmas.{sound}
use Rattle.make_nets.proofs.plan_laws.made_nets_are_sound.Goals as goal

pub returns : goal.returns
returns c = λ names prefix plan inputs outputs latches targets fits. sound names prefix inputs outputs latches targets plan fits
