use Rattle.std.proofs.Common.{◌≡◌}
use Rattle.net_core.specs.NetList.{nets}
use Rattle.worked_nets.proofs.net_fault_tests.fill.Given as goal

abbrev pub invariant-loop : goal.invariant-loop
invariant-loop l = nets l.maker ≡ 2
