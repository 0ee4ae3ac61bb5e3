-- Sound nets. Source: the BLIF format of UC Berkeley, whose nets have one driver each.
use Rattle.std.specs.Prelude.{◌≡◌, ℕ, ◌<◌, List, ◌++◌, map}
use Rattle.lists.specs.Lists.{Has, times}
use Rattle.net_core.specs.GateValue.{GateValue}
use Rattle.net_core.specs.NetList.{NetList, nets}
use Rattle.net_core.specs.Inside.{IsInside}
use Rattle.graph_core.specs.Walk.{IsCycleBy}

-- the primary inputs and the outputs of latches
abbrev pub sources : NetList → List ℕ
sources net = net.inputs ++ map (λ l. l.out) net.latches

-- the nets that are driven, once for each input, latch or gate that drives it
abbrev pub driven : NetList → List ℕ
driven net = sources net ++ map (λ g. g.out) net.gates

-- how many drivers a net has
abbrev pub drivers : NetList → ℕ → ℕ
drivers net n = times n (driven net)

-- each net is driven exactly once
abbrev pub HasOneDriverEach : NetList → Type 0
HasOneDriverEach net = (n : ℕ) → n < nets net → drivers net n ≡ 1

-- a gate that drives a has b among its inputs
abbrev pub Needs : NetList → ℕ → ℕ → Type 0
Needs net a b = (g : GateValue) × Has net.gates g × (g.out ≡ a) × Has g.inputs b

-- one or more nets, each driven by a gate that has the next among its inputs, and the last's gate has the first
abbrev pub IsCycle : NetList → List ℕ → Type 0
IsCycle net = IsCycleBy (Needs net)

-- gates drive each other in a cycle
abbrev pub HasCycle : NetList → Type 0
HasCycle net = (cycle : List ℕ) × IsCycle net cycle

-- Each net has exactly one driver, and no list of one or more gates drives itself in a cycle.
pub record IsSound (net : NetList) : Type 0 where
  pub inside : IsInside net
  pub one : HasOneDriverEach net
  pub no_cycle : HasCycle net → ⊥
