-- The gate that drives a net. Source: this project's own.
use Rattle.std.specs.Prelude.{ℕ, ◌==◌, Bool, Option, slice_get, is_some}
use Rattle.std.specs.List.{position_from}
use Rattle.std.specs.Option.{option_and_then}
use Rattle.net_core.specs.NetList.{NetList}
use Rattle.net_core.specs.GateValue.{GateValue}

-- the position of the first gate that drives the net
abbrev pub driver_position : NetList → ℕ → Option ℕ
driver_position net n = position_from (λ (g : GateValue). g.out == n) 0 net.gates

-- that gate
abbrev pub driver : NetList → ℕ → Option GateValue
driver net n = option_and_then (slice_get net.gates) (driver_position net n)

-- a gate drives the net
abbrev pub is_driven : NetList → ℕ → Bool
is_driven net n = is_some (driver_position net n)
