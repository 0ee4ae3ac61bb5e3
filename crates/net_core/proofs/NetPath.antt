-- Paths over nets, each driven by a gate that reads the next.
use Rattle.std.specs.Prelude.{ℕ, List}
use Rattle.net_core.specs.NetList.{NetList}
use Rattle.graph_core.specs.Walk.{IsChain}
use Rattle.net_core.specs.Sound.{Needs}

-- from a over these nets to b, each driven by a gate that has the next among its inputs
abbrev pub IsPath : NetList → ℕ → List ℕ → ℕ → Type 0
IsPath net = IsChain (Needs net)
