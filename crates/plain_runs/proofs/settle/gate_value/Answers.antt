use Rattle.std.proofs.Common.{length, ◌≤◌}
use Rattle.net_core.proofs.EvalLemmas.{small_index}
use Rattle.plain_runs.proofs.settle.gate_value.Goals as goal

pub table_bit-requires : goal.table_bit-requires
table_bit-requires c =
    let few : length c.inputs.result.now ≤ 6 = rw c.inputs.ensures.inputs c.inputs.ensures.few in
    small_index (length c.inputs.result.now) c.number_of_bits.result few c.number_of_bits.ensures.small
