use Rattle.std.proofs.Common.{ap, subst, inr, Err}
use Rattle.net_core.specs.NetList.{NetList}
use Rattle.net_flat.specs.private.Stopping.{IsFaultOfGate}
use Rattle.net_flat.proofs.namer.Namer.latch.Goals as goal

pub of_fault-requires : goal.of_fault-requires
of_fault-requires c = inr c.in-Err.ensures.only

pub returns-in-Err-clause-fault : goal.returns-in-Err-clause-fault
returns-in-Err-clause-fault c =
    let P : NetList → Type 0 = λ net. IsFaultOfGate net c.of_fault.result in
    subst P c.self.view_is (record { refusal = c.in-Err.fault; is = c.of_fault.ensures; only = c.in-Err.ensures.only; full = λ e. c.in-Err.ensures.full (ap Err e) })
