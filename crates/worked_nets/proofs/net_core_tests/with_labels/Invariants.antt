use Rattle.std.proofs.Common.{◌≡◌}
use Rattle.net_core.specs.NetList.{nets}
use Rattle.worked_nets.proofs.net_core_tests.with_labels.Given as goal

abbrev pub invariant-loop-label : goal.invariant-loop-label
invariant-loop-label l = nets l.maker ≡ l.label-index
