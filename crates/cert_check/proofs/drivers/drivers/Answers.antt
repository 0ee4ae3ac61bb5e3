use Rattle.std.proofs.Common.{subst}
use Rattle.std.specs.Prelude.{IfOk}
use Rattle.net_core.specs.NetList.{NetList}
use Rattle.cert_check.specs.private.Reading.{AreDrivers}
use Rattle.cert_check.proofs.drivers.drivers.Goals as goal

pub returns-clause-drivers : goal.returns-clause-drivers
returns-clause-drivers c = let P : NetList → Type 0 = λ n. IfOk c.net_drivers.result (λ list. AreDrivers n list.items) in subst P c.net-net.ensures.net c.net_drivers.ensures

pub returns-clause-is_bound : goal.returns-clause-is_bound
returns-clause-is_bound c = c.net-net.ensures.is_bound
