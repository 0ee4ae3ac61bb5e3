use Rattle.std.proofs.Common.{arith}
use Rattle.spec_compare.proofs.StepLemmas.{all_bits}
use Rattle.spec_compare.proofs.first.bits_at.Goals as goal

pub returns : goal.returns
returns c = all_bits c.loop-i.bits c.args.ones.now 512 c.loop-i.i c.loop-i.invariant.long (omega arith) c.requires c.loop-i.invariant.so_far
