use Rattle.unroll.proofs.UnrolledLemmas.{unrolled_cycle, unrolled_sound}
use Rattle.unroll.proofs.laws.unrolled_nets_are_sound.Goals as goal

pub returns-clause-sound : goal.returns-clause-sound
returns-clause-sound c = λ net binding cycles sound bound small. unrolled_sound net binding cycles sound bound small.few_nets small.few_gates

pub returns-clause-one_cycle : goal.returns-clause-one_cycle
returns-clause-one_cycle c = unrolled_cycle
