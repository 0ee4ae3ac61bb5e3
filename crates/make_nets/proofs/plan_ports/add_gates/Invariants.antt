-- What is left comes after what there is.
use Rattle.std.proofs.Common.{◌≡◌, ◌+◌, ◌++◌, drop, length}
use Rattle.net_core.specs.NetList.{nets}
use Rattle.make_nets.proofs.plan_ports.add_gates.Given as goal

abbrev pub invariant-loop-gate : goal.invariant-loop-gate
invariant-loop-gate l =
    (record l.maker { gates = l.maker.gates ++ drop l.gate-index l.gates } ≡ record l.fn.maker { gates = l.fn.maker.gates ++ l.fn.gates })
    × (nets l.maker ≡ nets l.fn.maker)
    × (length l.maker.gates + length l.maker.latches ≡ length l.fn.maker.gates + length l.fn.maker.latches + l.gate-index)
