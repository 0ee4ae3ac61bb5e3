-- Net lists whose numbers, tables and names fit, and which keep the limits. Source: this project's own.
use Rattle.std.specs.Prelude.{◌≡◌, ℕ, ◌<◌, ◌≤◌, ◌+◌, ◌^◌, true, List, Some, length, slice_get, All}
use Rattle.lists.specs.Limits.{most_nets}
use Rattle.net_core.specs.GateValue.{GateValue}
use Rattle.net_core.specs.LatchValue.{LatchValue}
use Rattle.net_core.specs.NetList.{NetList, LabelValue, nets, number_of}

-- a name has 1 to 255 bytes
abbrev pub IsNetName : List ℕ → Type 0
IsNetName name = (1 ≤ length name) × (length name ≤ 255)

-- one more net would be the 1,048,577th
abbrev pub IsFull : NetList → Type 0
IsFull net = most_nets ≤ nets net

-- one more gate or latch would be the 1,048,577th
abbrev pub HasNoMoreGates : NetList → Type 0
HasNoMoreGates net = most_nets ≤ length net.gates + length net.latches

-- the gate stands on nets below n, has at most 6 inputs, and its table has bits for these inputs alone
abbrev pub GateIsInside : ℕ → GateValue → Type 0
GateIsInside n gate = (gate.out < n) × All (λ net. net < n) gate.inputs × (length gate.inputs ≤ 6) × (gate.table < 2 ^ (2 ^ length gate.inputs))

-- the latch stands on nets below n
abbrev pub LatchIsInside : ℕ → LatchValue → Type 0
LatchIsInside n latch = (latch.next < n) × (latch.out < n)

-- all stands on nets that exist, tables and names fit, and the limits are kept
pub record IsInside (net : NetList) : Type 0 where
  pub few_nets : nets net ≤ most_nets
  pub few_gates : length net.gates + length net.latches ≤ most_nets
  pub inputs : All (λ n. n < nets net) net.inputs
  pub outputs : All (λ n. n < nets net) net.outputs
  pub gates : All (GateIsInside (nets net)) net.gates
  pub latches : All (LatchIsInside (nets net)) net.latches
  -- a named net has a name, by which it is found
  pub names : (n : ℕ) (label : LabelValue) → slice_get net.labels n ≡ Some label → label.named ≡ true → IsNetName label.text × (number_of net label.text ≡ Some n)
