use Rattle.std.proofs.Common.{[], refl}
use Rattle.make_nets.proofs.MadeLemmas.{made_binds, made_plain, made_sound}
use Rattle.make_nets.proofs.made_laws.made_nets_bind.Goals as goal

pub returns-clause-sound : goal.returns-clause-sound
returns-clause-sound c = made_sound

pub returns-clause-plain : goal.returns-clause-plain
returns-clause-plain c = made_plain

pub returns-clause-binds : goal.returns-clause-binds
returns-clause-binds c = λ words latches targets plan are fits held. made_binds words [] latches targets plan are fits [] [] held refl (λ n has. absurd (let got = has.1 in cc))
