use Rattle.std.proofs.Common.{ap, length}
use Rattle.net_write.proofs.WriteLemmas.{gate_added}
use Rattle.net_write.proofs.write.add_gate.Goals as goal

pub returns : goal.returns
returns c =
    gate_added c.args.net.now c.args.gate.now c.args.out.now.items _ _ _ _ _ c.inputs.result.now c.out.result (length c.inputs-2.result.now) c.table.result
    c.inputs.ensures.inputs c.out.ensures (ap length c.inputs-2.ensures.inputs) c.table.ensures.table
    c.in_ok-extend_from_slice.ensures.items c.in_ok-add_fields.ensures c.in_ok-add_field.ensures c.in_ok-push.ensures.items c.in_ok-add_rows.ensures
