-- Graphs: for each point, by its number, the list of the points to which its edges lead, in order.
-- Source: a directed graph as adjacency lists, as in Tarjan, Depth-First Search and Linear Graph Algorithms, 1972.
use Rattle.std.specs.Prelude.{◌⊎◌, ℕ, ◌<◌, List, [], length, slice_get, unwrap_or}
use Rattle.lists.specs.Lists.{Has}
use Rattle.graph_core.specs.Walk.{IsChain, IsCycleBy}

abbrev pub Graph : Type 0
Graph = List (List ℕ)

-- where the edges of a point lead
abbrev pub edges : Graph → ℕ → List ℕ
edges graph a = unwrap_or (slice_get graph a) []

-- an edge leads from a to b
abbrev pub HasEdge : Graph → ℕ → ℕ → Type 0
HasEdge graph a b = Has (edges graph a) b

-- edges lead to points of the graph
abbrev pub IsInside : Graph → Type 0
IsInside graph = (a b : ℕ) → HasEdge graph a b → b < length graph

-- one or more edges lead from a over these points to b
abbrev pub IsPath : Graph → ℕ → List ℕ → ℕ → Type 0
IsPath graph = IsChain (HasEdge graph)

-- one or more points, of which each leads to the next and the last to the first
abbrev pub IsCycle : Graph → List ℕ → Type 0
IsCycle graph = IsCycleBy (HasEdge graph)

-- a root, or a point to which a path leads from one
abbrev pub IsReached : Graph → List ℕ → ℕ → Type 0
IsReached graph roots a = Has roots a ⊎ ((root : ℕ) × (between : List ℕ) × Has roots root × IsPath graph root between a)
