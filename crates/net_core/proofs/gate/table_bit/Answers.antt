use Rattle.net_core.proofs.EvalLemmas.{small_index}
use Rattle.net_core.proofs.TurnLemmas.{bit_is}
use Rattle.net_core.proofs.gate.table_bit.Goals as goal
use Rattle.std.proofs.Common.{length}

pub overflow_shl-result : goal.overflow_shl-result
overflow_shl-result c = small_index (length c.args.inputs.now) c.args.index c.requires.few c.requires.index

pub returns : goal.returns
returns c = bit_is c.args.index (small_index (length c.args.inputs.now) c.args.index c.requires.few c.requires.index)
