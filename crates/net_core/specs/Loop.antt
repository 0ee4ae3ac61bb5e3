-- The list of nets that is named where gates drive each other in a cycle. Source: this project's own.
use Rattle.std.specs.Prelude.{◌≡◌, ℕ, ◌<◌, List, Some, slice_get}
use Rattle.lists.specs.Lists.{Has}
use Rattle.net_core.specs.GateValue.{GateValue}
use Rattle.net_core.specs.NetList.{NetList}
use Rattle.net_core.specs.Sound.{sources}
use Rattle.graph_core.specs.Walk.{IsLoopBy}

-- A net has a level if it is a source, or if each input of its gate has one. So where gates all of whose inputs
-- have a level are removed as often as possible, those remain whose outputs have none.
pub data HasLevel (net : NetList) : ℕ → Type 0 where
  of_source : (n : ℕ) → Has (sources net) n → HasLevel net n
  of_gate : (g : GateValue) → Has net.gates g → ((n : ℕ) → Has g.inputs n → HasLevel net n) → HasLevel net g.out

-- no removal of gates gives the net a level
abbrev pub HasNoLevel : NetList → ℕ → Type 0
HasNoLevel net n = HasLevel net n → ⊥

-- b is the first net of the list that has no level
abbrev pub IsFirstWithout : NetList → List ℕ → ℕ → Type 0
IsFirstWithout net list b = (i : ℕ) × (slice_get list i ≡ Some b) × HasNoLevel net b × ((j n : ℕ) → j < i → slice_get list j ≡ Some n → HasLevel net n)

-- a is driven by the remaining gate of least position
abbrev pub IsBegin : NetList → ℕ → Type 0
IsBegin net a = (p : ℕ) × (g : GateValue) × (slice_get net.gates p ≡ Some g) × (g.out ≡ a) × HasNoLevel net a
    × ((q : ℕ) (h : GateValue) → q < p → slice_get net.gates q ≡ Some h → HasLevel net h.out)

-- a is driven by a remaining gate, and b is its first input that has no level
abbrev pub LeadsTo : NetList → ℕ → ℕ → Type 0
LeadsTo net a b = (g : GateValue) × Has net.gates g × (g.out ≡ a) × IsFirstWithout net g.inputs b

-- The loop of a walk that begins at the remaining gate of least position, goes from each net to that to which it leads,
-- and stops where it meets a net again: the walk from the first meeting on.
abbrev pub IsLoop : NetList → List ℕ → Type 0
IsLoop net = IsLoopBy (IsBegin net) (LeadsTo net)
