use Rattle.std.proofs.Common.{◌∙◌, ap, arith}
use Rattle.net_core.specs.NetList.{nets}
use Rattle.make_nets.proofs.RestLemmas.{gates_count, gates_done, gates_more}
use Rattle.make_nets.proofs.plan_ports.add_gates.Goals as goal

pub loop-gate-preserved : goal.loop-gate-preserved
loop-gate-preserved c = (
  gates_more c.loop-gate.maker c.add_gate.new.maker c.args.gates.now c.loop-gate.gate-index c.gate-item.result c.loop-gate-test.true c.gate-item.is c.in_ok-add_gate.ensures ∙ c.loop-gate.invariant.0,
  ap nets c.in_ok-add_gate.ensures ∙ c.loop-gate.invariant.1,
  omega (arith, gates_count c.loop-gate.maker c.add_gate.new.maker c.gate-item.result c.in_ok-add_gate.ensures, c.loop-gate.invariant.2),
)

pub returns : goal.returns
returns c = gates_done c.loop-gate.maker c.args.gates.now c.loop-gate.gate-index c.loop-gate-test.false ∙ c.loop-gate.invariant.0
