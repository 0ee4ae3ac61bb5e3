use Rattle.net_flat.proofs.LatchLemmas.{no_latches}
use Rattle.net_flat.proofs.part_laws.wholes_of_latchless_instances_have_no_latch.Goals as goal

pub returns : goal.returns
returns c = λ design whole is none each. no_latches design whole is.0 none is.1 each
