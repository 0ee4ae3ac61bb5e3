-- The fault that ends a walk early. Source: this project's own.
use Rattle.std.specs.Prelude.{◌≡◌, ◌⊎◌}
use Rattle.net_core.specs.NetList.{NetList}
use Rattle.net_core.specs.Inside.{HasNoMoreGates, IsFull}
use Rattle.net_core.specs.declared.fault.NetFault.{NetFault}
use Rattle.net_core.specs.declared.fault.NetFault.TheVariants as nets
use Rattle.net_flat.specs.declared.flat_fault.FlatFault.{FlatFault}
use Rattle.net_flat.specs.declared.flat_fault.FlatFault.TheVariants as faults
use Rattle.net_flat.specs.declared.stop.Cause.{Cause}
use Rattle.net_flat.specs.declared.stop.Cause.TheVariants as causes

-- what a cause is as a fault of flattening
abbrev pub fault_in : Cause → FlatFault
fault_in causes.TooManyNets = faults.Net nets.TooManyNets
fault_in causes.TooManyGates = faults.Net nets.TooManyGates
fault_in causes.TooManyInstances = faults.TooManyInstances
fault_in causes.OutOfMemory = faults.OutOfMemory

-- a fault of nets as one of flattening: out of memory is one of its own
abbrev pub IsFaultBy : NetFault → FlatFault → Type 0
IsFaultBy refusal fault = ((refusal ≡ nets.OutOfMemory) × (fault ≡ faults.OutOfMemory)) ⊎ (¬ (refusal ≡ nets.OutOfMemory) × (fault ≡ faults.Net refusal))

-- why there is no new net: out of memory, or it would be the 1,048,577th
abbrev pub IsFaultOfNet : NetList → FlatFault → Type 0
IsFaultOfNet net fault = (fault ≡ faults.OutOfMemory) ⊎ (IsFull net × (fault ≡ faults.Net nets.TooManyNets))

-- why there is no gate or latch more: out of memory, or it would be the 1,048,577th of both
pub record IsFaultOfGate (net : NetList) (fault : FlatFault) : Type 0 where
  pub refusal : NetFault
  pub is : IsFaultBy refusal fault
  pub only : (refusal ≡ nets.TooManyGates) ⊎ (refusal ≡ nets.OutOfMemory)
  pub full : refusal ≡ nets.TooManyGates → HasNoMoreGates net
