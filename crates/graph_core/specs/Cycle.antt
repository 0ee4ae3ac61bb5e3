-- The cycle that a walk from given roots finds, and points from which no walk finds one. Source: this project's own.
use Rattle.std.specs.Prelude.{◌≡◌, ℕ, ◌<◌, List, Some, slice_get}
use Rattle.graph_core.specs.Graph.{Graph, edges, HasEdge}
use Rattle.graph_core.specs.Walk.{IsLoopBy}

-- A point is grounded if each point to which it leads is. So one that leads nowhere is, and one that leads into a cycle is not.
pub data IsGrounded (graph : Graph) : ℕ → Type 0 where
  grounded : (a : ℕ) → ((b : ℕ) → HasEdge graph a b → IsGrounded graph b) → IsGrounded graph a

-- the point leads into a cycle
abbrev pub IsEndless : Graph → ℕ → Type 0
IsEndless graph a = IsGrounded graph a → ⊥

-- b is the first endless point of the list, and those before it are grounded
abbrev pub IsFirstEndless : Graph → List ℕ → ℕ → Type 0
IsFirstEndless graph list b = (i : ℕ) × (slice_get list i ≡ Some b) × IsEndless graph b × ((j c : ℕ) → j < i → slice_get list j ≡ Some c → IsGrounded graph c)

-- The cycle that a walk finds which begins at the first endless root, and goes from each point to the first endless one
-- to which it leads.
abbrev pub IsCycleOf : Graph → List ℕ → List ℕ → Type 0
IsCycleOf graph roots = IsLoopBy (IsFirstEndless graph roots) (λ a b. IsFirstEndless graph (edges graph a) b)
