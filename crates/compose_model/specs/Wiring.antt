-- What feeds all instances of a top, and which instances feed each other. Source: Pruss, Kalla, Enescu, DAC 2014.
use Rattle.std.specs.Global.{Global}
use Rattle.std.specs.Prelude.{◌≡◌, ℕ, ◌<◌, List, [], ◌∷◌, Some, Vec, length, map, slice_get}
use Rattle.graph_core.specs.Cycle.{IsGrounded}
use Rattle.graph_core.specs.Graph.{Graph}
use Rattle.net_blif.specs.Top.{instances_of}
use Rattle.net_blif.specs.declared.item.Item.{Item}
use Rattle.circuit_model.specs.Circuit.{Circuit}
use Rattle.compose_model.specs.Feeds.{AreFeedsOf}
use Rattle.compose_model.specs.Hierarchy.{Hierarchy}
use Rattle.compose_model.specs.Values.{IsBlockOf}
use Rattle.compose_model.specs.declared.feeder.Feeder.{Feeder}
use Rattle.compose_model.specs.declared.feeder.Feeder.TheVariants.{InputWord, OutputOf}

-- the instances among feeds, in their order
abbrev pub instances_among : List Feeder → List ℕ
instances_among [] = []
instances_among (InputWord w ∷ feeds) = instances_among feeds
instances_among (OutputOf i ∷ feeds) = i ∷ instances_among feeds

-- each instance leads to those that feed it
abbrev pub feeding_graph : List (List Feeder) → Graph
feeding_graph rows = map instances_among rows

-- row i is what feeds instance i
pub record AreAllFeeds (h : Hierarchy) (rows : List (List Feeder)) : Type 0 where
  pub long : length rows ≡ length (instances_of h.design)
  pub each : (i : ℕ) (feeds : List Feeder) → slice_get rows i ≡ Some feeds → AreFeedsOf h i feeds

-- each instance has a block that binds
abbrev pub HaveBlocks : ℕ → (ℕ → ℕ → ℕ) → Hierarchy → Type 0
HaveBlocks k mul h = (i : ℕ) (item : Item) → slice_get (instances_of h.design) i ≡ Some item → (circuit : Circuit) × IsBlockOf k mul h item circuit

-- no instances feed each other in a cycle
abbrev pub IsWithoutCycle : List (List Feeder) → Type 0
IsWithoutCycle rows = (i : ℕ) → i < length rows → IsGrounded (feeding_graph rows) i

-- the rows of feeds
abbrev pub rows_in : List (Vec Feeder Global) → List (List Feeder)
rows_in rows = map (λ row. row.items) rows
