-- Gates of an order that have their values.
use Rattle.std.specs.Prelude.{◌≡◌, ℕ, ◌<◌, List, Bool, Some, slice_get, length}
use Rattle.net_core.specs.GateValue.{GateValue}
use Rattle.net_core.specs.NetList.{NetList, nets}
use Rattle.net_core.specs.Value.{IsRight}

-- the first k gates of the order have their values
pub record AreRight (net : NetList) (order : List ℕ) (k : ℕ) (bits : List Bool) : Type 0 where
  pub long : length bits ≡ nets net
  pub right : (j p : ℕ) (g : GateValue) → j < k → slice_get order j ≡ Some p → slice_get net.gates p ≡ Some g → IsRight bits g
