use Rattle.compose_blocks.proofs.RefusalLemmas.{not_bound}
use Rattle.compose_blocks.proofs.block_fault.bind_refusal.Goals as goal

pub returns-in_default : goal.returns-in_default
returns-in_default c = not_bound c.args.fault c.in_default.not-OutOfMemory
