-- What is left comes after what there is.
use Rattle.std.proofs.Common.{◌≡◌, ◌++◌, drop}
use Rattle.net_core.specs.NetList.{nets}
use Rattle.make_nets.proofs.plan_ports.add_outputs.Given as goal

abbrev pub invariant-loop-net : goal.invariant-loop-net
invariant-loop-net l =
    (record l.maker { outputs = l.maker.outputs ++ drop l.net-index l.outputs } ≡ record l.fn.maker { outputs = l.fn.maker.outputs ++ l.fn.outputs })
    × (nets l.maker ≡ nets l.fn.maker)
