use Rattle.std.proofs.Common.{◌≡◌, arith, Some}
use Rattle.std.specs.Prelude.{slice_get}
use Rattle.lists.specs.laws.ReadLaws.{got_read}
use Rattle.net_core.specs.GateValue.{GateValue}
use Rattle.net_core.proofs.DriverLemmas.{gate_inside}
use Rattle.net_core.proofs.DrivingLemmas.{no_gates, one_gate_more, all_gates}
use Rattle.net_core.proofs.driving.graph_of.Goals as goal

pub set_edges-requires-clause-from : goal.set_edges-requires-clause-from
set_edges-requires-clause-from c =
    let g : GateValue = c.gate-item.result in
    let at : slice_get c.args.net.now.gates c.loop-gate.gate-index ≡ Some g = got_read c.args.net.now.gates c.loop-gate.gate-index g (rw c.gates-gate-items.ensures.gates at c.loop-gate-test.true) (rw c.gates-gate-items.ensures.gates at c.gate-item.is) in
    omega (arith, c.out.ensures, (gate_inside c.args.net.now g c.gates-gate-items.ensures.inside (c.loop-gate.gate-index, at)).0, c.loop-gate.invariant.long)

pub set_edges-requires-clause-to : goal.set_edges-requires-clause-to
set_edges-requires-clause-to c =
    let g : GateValue = c.gate-item.result in
    let at : slice_get c.args.net.now.gates c.loop-gate.gate-index ≡ Some g = got_read c.args.net.now.gates c.loop-gate.gate-index g (rw c.gates-gate-items.ensures.gates at c.loop-gate-test.true) (rw c.gates-gate-items.ensures.gates at c.gate-item.is) in
    rw (c.inputs.ensures.inputs, c.loop-gate.invariant.long) ((gate_inside c.args.net.now g c.gates-gate-items.ensures.inside (c.loop-gate.gate-index, at)).1)

pub loop-gate-init : goal.loop-gate-init
loop-gate-init c = no_gates c.args.net.now c.in_ok-graph.graph c.nets.result c.in_ok-graph.ensures c.nets.ensures.count

pub loop-gate-preserved : goal.loop-gate-preserved
loop-gate-preserved c =
    let g : GateValue = c.gate-item.result in
    let at : slice_get c.args.net.now.gates c.loop-gate.gate-index ≡ Some g = got_read c.args.net.now.gates c.loop-gate.gate-index g (rw c.gates-gate-items.ensures.gates at c.loop-gate-test.true) (rw c.gates-gate-items.ensures.gates at c.gate-item.is) in
    one_gate_more c.args.net.now c.loop-gate.graph c.set_edges.new.self c.loop-gate.gate-index g c.gates-gate-items.ensures.inside c.requires at c.loop-gate.invariant (rw (← c.out.ensures, ← c.inputs.ensures.inputs) c.in_ok-set_edges.ensures.made)

pub returns-clause-graph : goal.returns-clause-graph
returns-clause-graph c = all_gates c.args.net.now c.loop-gate.graph c.loop-gate.gate-index c.loop-gate.invariant (rw c.gates-gate-items.ensures.gates at c.loop-gate-test.false)
