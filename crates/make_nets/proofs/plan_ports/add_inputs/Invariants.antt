-- What is left comes after what there is.
use Rattle.std.proofs.Common.{◌≡◌, ◌++◌, drop}
use Rattle.net_core.specs.NetList.{nets}
use Rattle.make_nets.proofs.plan_ports.add_inputs.Given as goal

abbrev pub invariant-loop-net : goal.invariant-loop-net
invariant-loop-net l =
    (record l.maker { inputs = l.maker.inputs ++ drop l.net-index l.inputs } ≡ record l.fn.maker { inputs = l.fn.maker.inputs ++ l.fn.inputs })
    × (nets l.maker ≡ nets l.fn.maker)
