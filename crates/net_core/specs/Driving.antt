-- The graph of a net list. Source: this project's own.
use Rattle.std.specs.Prelude.{◌≡◌, ℕ, List, [], ◌++◌, length, map}
use Rattle.lists.specs.Lists.{Has}
use Rattle.graph_core.specs.Graph.{Graph, edges}
use Rattle.graph_core.specs.declared.fault.CycleFault.{CycleFault}
use Rattle.graph_core.specs.declared.fault.CycleFault.TheVariants.{Cycle, OutOfMemory}
use Rattle.net_core.specs.GateValue.{GateValue}
use Rattle.net_core.specs.NetList.{NetList, nets}
use Rattle.net_core.specs.Sound.{sources}
use Rattle.net_core.specs.Loop.{IsLoop}

-- each net that a gate drives leads to the gate's inputs, and a source leads nowhere
pub record IsGraphOf (net : NetList) (graph : Graph) : Type 0 where
  pub long : length graph ≡ nets net
  pub gates : (g : GateValue) → Has net.gates g → edges graph g.out ≡ g.inputs
  pub sources : (n : ℕ) → Has (sources net) n → edges graph n ≡ []

-- the outputs of the gates by position, and then the sources
abbrev pub roots_of : NetList → List ℕ
roots_of net = map (λ (g : GateValue). g.out) net.gates ++ sources net

-- the loop that a walk finds in place of an order, or out of memory
abbrev pub IsLoopFault : NetList → CycleFault → Type 0
IsLoopFault net (Cycle points) = IsLoop net points.items
IsLoopFault net OutOfMemory = Unit {0}
