use Rattle.std.proofs.Common.{ap, subst, inl, inr, Err}
use Rattle.net_core.specs.NetList.{NetList}
use Rattle.net_flat.specs.private.Stopping.{IsFaultOfNet}
use Rattle.net_flat.proofs.StateLemmas.{net_refused}
use Rattle.net_flat.proofs.namer.Namer.fresh.Goals as goal

pub of_fault-requires : goal.of_fault-requires
of_fault-requires c = elim c.in-Err.ensures.only [
  | inl nets ↦ inl nets
  | inr memory ↦ inr (inr memory)
]

pub returns-in-Err-clause-fault : goal.returns-in-Err-clause-fault
returns-in-Err-clause-fault c =
    let P : NetList → Type 0 = λ net. IsFaultOfNet net c.of_fault.result in
    subst P c.self.view_is (net_refused c.self.inside.maker c.in-Err.fault c.of_fault.result c.of_fault.ensures c.in-Err.ensures.only (λ e. c.in-Err.ensures.full (ap Err e)))
