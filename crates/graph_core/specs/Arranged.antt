-- Points in an order in which each stands after those to which it leads.
-- Source: a topological order, as in Knuth, The Art of Computer Programming, section 2.2.3, reversed.
use Rattle.std.specs.Prelude.{◌≡◌, ℕ, ◌<◌, List, length, Some, slice_get}
use Rattle.lists.specs.Lists.{Has}
use Rattle.graph_core.specs.Graph.{Graph, HasEdge, IsReached}

-- The roots and the points to which they lead and no others, each once, and each after those to which it leads.
pub record IsArranged (graph : Graph) (roots order : List ℕ) : Type 0 where
  pub has_roots : (a : ℕ) → Has roots a → Has order a
  pub only : (a : ℕ) → Has order a → IsReached graph roots a
  pub inside : (a : ℕ) → Has order a → a < length graph
  pub once : (i j a : ℕ) → slice_get order i ≡ Some a → slice_get order j ≡ Some a → i ≡ j
  pub after : (i a b : ℕ) → slice_get order i ≡ Some a → HasEdge graph a b → (j : ℕ) × (j < i) × (slice_get order j ≡ Some b)
