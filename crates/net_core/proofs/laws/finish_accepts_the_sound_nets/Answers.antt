use Rattle.net_core.proofs.LawLemmas.{sound_no_fault, one_fault}
use Rattle.net_core.proofs.laws.finish_accepts_the_sound_nets.Goals as goal

pub returns-clause-sound : goal.returns-clause-sound
returns-clause-sound c = sound_no_fault

pub returns-clause-one_fault : goal.returns-clause-one_fault
returns-clause-one_fault c = one_fault
