-- The walk over the chosen model. Source: this project's own.
use Rattle.std.specs.Prelude.{ℕ, List, Result}
use Rattle.net_core.specs.NetList.{empty}
use Rattle.net_blif.specs.Design.{ModelValue}
use Rattle.net_flat.specs.declared.flat_fault.FlatFault.{FlatFault}
use Rattle.net_flat.specs.private.LocalWalk.{local_within, state_with, InTop, State}

-- the walk over the chosen model: no chain of instances of a design has more than 64 models
abbrev pub local_walk : List ModelValue → ℕ → Result State FlatFault
local_walk design model = local_within 64 design (state_with empty 0 InTop) model
