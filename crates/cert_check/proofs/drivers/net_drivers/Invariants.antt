use Rattle.std.proofs.Common.{◌≤◌, length, drop}
use Rattle.net_core.specs.NetList.{nets}
use Rattle.cert_check.specs.private.Reading.{AreDriversFrom}
use Rattle.cert_check.proofs.drivers.net_drivers.Given as goal

abbrev pub invariant-loop-i : goal.invariant-loop-i
invariant-loop-i l = record {
  within : l.i ≤ length l.gates;
  drivers : AreDriversFrom l.i (drop l.i l.gates) (nets l.net) l.list.items;
}

abbrev pub decreases-loop-i : goal.decreases-loop-i
decreases-loop-i l = l.i
