-- What is left comes after what there is.
use Rattle.std.proofs.Common.{◌≡◌, ◌+◌, ◌++◌, drop, length}
use Rattle.net_core.specs.NetList.{nets}
use Rattle.make_nets.proofs.plan_ports.add_latches.Given as goal

abbrev pub invariant-loop-latch : goal.invariant-loop-latch
invariant-loop-latch l =
    (record l.maker { latches = l.maker.latches ++ drop l.latch-index l.latches } ≡ record l.fn.maker { latches = l.fn.maker.latches ++ l.fn.latches })
    × (nets l.maker ≡ nets l.fn.maker)
    × (length l.maker.gates + length l.maker.latches ≡ length l.fn.maker.gates + length l.fn.maker.latches + l.latch-index)
