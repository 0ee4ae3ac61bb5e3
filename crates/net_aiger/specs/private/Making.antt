-- What is known while a net list is made: for the clauses of private functions. Source: this project's own.
use Rattle.std.specs.Prelude.{◌≡◌, ◌⊎◌, ℕ, false, List, None, Ok, Err, Result, drop}
use Rattle.std.specs.List.{list_any}
use Rattle.std.specs.Str.{bytes_eq}
use Rattle.net_core.specs.NetList.{NetList, number_of}
use Rattle.net_core.specs.declared.fault.NetFault.{NetFault}
use Rattle.net_core.specs.declared.fault.NetFault.TheVariants.{OutOfMemory}
use Rattle.net_aiger.specs.Checks.{apart}
use Rattle.net_aiger.specs.Reading.{Name, Reading}

-- the fault of a step, or out of memory
abbrev pub IsFaultOf : Result NetList NetFault → NetFault → Type 0
IsFaultOf step fault = (fault ≡ OutOfMemory) ⊎ (step ≡ Err fault)

-- no net has a name that stands not among these
abbrev pub HasOnly : List Name → NetList → Type 0
HasOnly names net = (name : Name) → list_any (bytes_eq name) names ≡ false → number_of net name ≡ None

-- the names of the ports that are left, from a number on, are apart from each other and from those of the nets
pub record Awaits (reading : Reading) (port : ℕ) (left : List ℕ) (net : NetList) : Type 0 where
  pub before : List Name
  pub apart_from : apart reading port before left ≡ Ok tt
  pub only : HasOnly before net

-- the names of the reading's own ports, from a number on, are apart from each other and from those of the nets
abbrev pub AwaitsPort : Reading → ℕ → NetList → Type 0
AwaitsPort reading port net = Awaits reading port (drop port reading.ports) net
