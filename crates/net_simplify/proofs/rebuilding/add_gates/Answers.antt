use Rattle.std.proofs.Common.{ap}
use Rattle.net_core.specs.NetList.{nets}
use Rattle.net_simplify.specs.Simplified.{simple_gate}
use Rattle.net_simplify.specs.private.Lists.{forms_of}
use Rattle.net_simplify.specs.private.Marks.{count_at}
use Rattle.net_simplify.proofs.FillLemmas.{gate_added, gate_fits, gates_added}
use Rattle.net_simplify.proofs.rebuilding.add_gates.Goals as goal

pub add_gate-requires : goal.add_gate-requires
add_gate-requires c = gate_fits (simple_gate (count_at c.args.marks.now) (forms_of c.args.known.now)) (nets c.args.maker.now) (nets c.loop-gate.maker) c.gates-gate-items.result.now c.args.net.now.gates c.loop-gate.gate-index c.gate-item.result c.gates-gate-items.ensures.gates c.loop-gate-test.true c.gate-item.is c.requires (ap nets c.loop-gate.invariant)

pub loop-gate-preserved : goal.loop-gate-preserved
loop-gate-preserved c = gate_added (simple_gate (count_at c.args.marks.now) (forms_of c.args.known.now)) c.args.maker.now c.loop-gate.maker _ c.gates-gate-items.result.now c.args.net.now.gates c.loop-gate.gate-index c.gate-item.result c.gates-gate-items.ensures.gates c.loop-gate-test.true c.gate-item.is c.loop-gate.invariant c.in_ok-add_gate.ensures

pub returns : goal.returns
returns c = gates_added (simple_gate (count_at c.args.marks.now) (forms_of c.args.known.now)) c.args.maker.now c.loop-gate.maker c.gates-gate-items.result.now c.args.net.now.gates c.loop-gate.gate-index c.gates-gate-items.ensures.gates c.loop-gate-test.false c.loop-gate.invariant
