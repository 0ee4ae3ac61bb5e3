use Rattle.net_core.proofs.LawLemmas.{sound_no_fault}
use Rattle.unroll.proofs.make.finished.Goals as goal

pub memory-requires : goal.memory-requires
memory-requires c = sound_no_fault c.args.maker c.in-Err.fault c.requires c.in-Err.ensures
