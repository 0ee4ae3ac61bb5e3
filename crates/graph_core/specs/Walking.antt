-- A walk in depth on its way. Source: Tarjan, Depth-First Search and Linear Graph Algorithms, 1972.
use Rattle.std.specs.Prelude.{◌≡◌, ℕ, ◌<◌, ◌+◌, ◌*◌, ◌-◌, ◌^◌, List, [], length, Some, slice_get, sum_by}
use Rattle.lists.specs.Lists.{Has}
use Rattle.graph_core.specs.Graph.{Graph, edges, IsReached}
use Rattle.graph_core.specs.Cycle.{IsGrounded}
use Rattle.graph_core.specs.declared.walk.Mark.{Mark}
use Rattle.graph_core.specs.declared.walk.Mark.TheVariants.{Unseen, Open, Done}
use Rattle.graph_core.specs.declared.walk.Frame.{Frame}

-- each of the first edges of the point leads to a point that is done and stands before this place
abbrev pub LeadsBelow : Graph → List Mark → ℕ → ℕ → ℕ → Type 0
LeadsBelow graph marks point next place = (k to : ℕ) → k < next → slice_get (edges graph point) k ≡ Some to → (r : ℕ) × (slice_get marks to ≡ Some (Done r)) × (r < place)

-- the point is done
abbrev pub IsDone : List Mark → ℕ → Type 0
IsDone marks point = (r : ℕ) × (slice_get marks point ≡ Some (Done r))

abbrev pub AreDone : List Mark → List ℕ → Type 0
AreDone marks points = (k to : ℕ) → slice_get points k ≡ Some to → IsDone marks to

-- The stack leads from its bottom to its top; points that were left are done and stand in the order.
pub record IsWalking (graph : Graph) (marks : List Mark) (stack : List Frame) (order : List ℕ) : Type 0 where
  pub long : length marks ≡ length graph
  -- a point that is done leads to points that stand before it
  pub done : (point place : ℕ) → slice_get marks point ≡ Some (Done place) → (slice_get order place ≡ Some point) × LeadsBelow graph marks point (length (edges graph point)) place
  -- and it stands in the order
  pub ordered : (place point : ℕ) → slice_get order place ≡ Some point → slice_get marks point ≡ Some (Done place)
  -- the walk's points are open, and their first edges lead to points that are done
  pub frames : (j : ℕ) (f : Frame) → slice_get stack j ≡ Some f → (slice_get marks f.point ≡ Some (Open j)) × LeadsBelow graph marks f.point f.next (length order)
  -- each open point is one of them
  pub open_at : (point j : ℕ) → slice_get marks point ≡ Some (Open j) → (f : Frame) × (slice_get stack j ≡ Some f) × (f.point ≡ point)
  -- each leads to the one after it
  pub links : (j : ℕ) (f g : Frame) → slice_get stack j ≡ Some f → slice_get stack (j + 1) ≡ Some g → slice_get (edges graph f.point) f.next ≡ Some g.point

-- the walk began at the root
abbrev pub StartsAt : ℕ → List Frame → Type 0
StartsAt root stack = (f : Frame) → slice_get stack 0 ≡ Some f → f.point ≡ root

-- the root is the one at place i, and those before it are grounded
abbrev pub EarlierAreGrounded : Graph → List ℕ → ℕ → ℕ → Type 0
EarlierAreGrounded graph roots root i = (slice_get roots i ≡ Some root) × ((j c : ℕ) → j < i → slice_get roots j ≡ Some c → IsGrounded graph c)

abbrev pub weight : Mark → ℕ
weight Unseen = 1
weight (Open j) = 0
weight (Done r) = 0

-- how many points were not met
abbrev pub unseen : List Mark → ℕ
unseen marks = sum_by weight marks

-- what is left to do falls with each step
abbrev pub work : List Mark → List Frame → ℕ
work marks stack = (2 ^ 64 + 2) * unseen marks + sum_by (λ (f : Frame). 1 + (2 ^ 64 - f.next)) stack

-- the point is open or done
abbrev pub IsMet : List Mark → ℕ → Type 0
IsMet marks point = (mark : Mark) × (slice_get marks point ≡ Some mark) × (mark ≡ Unseen → ⊥)

abbrev pub KeepsMet : List Mark → List Mark → Type 0
KeepsMet old new = (point : ℕ) → IsMet old point → IsMet new point

-- the roots lead to each point that was met
abbrev pub MetAreReached : Graph → List ℕ → List Mark → Type 0
MetAreReached graph roots marks = (point : ℕ) → IsMet marks point → IsReached graph roots point

abbrev pub AreUnseen : List Mark → Type 0
AreUnseen marks = (point : ℕ) (mark : Mark) → slice_get marks point ≡ Some mark → mark ≡ Unseen

-- what one step of a walk leaves of the marks and of the stack
pub record IsStep (graph : Graph) (marks : List Mark) (stack : List Frame) (after : List Mark) (rest : List Frame) (order : List ℕ) : Type 0 where
  pub walk : IsWalking graph after rest order
  pub first : (root : ℕ) → StartsAt root stack → StartsAt root rest
  pub met : KeepsMet marks after
  pub only : (roots : List ℕ) → MetAreReached graph roots marks → MetAreReached graph roots after
  pub falls : work after rest < work marks stack

-- what a walk from a root leaves
pub record IsVisit (graph : Graph) (root : ℕ) (marks after : List Mark) (stack : List Frame) (order : List ℕ) : Type 0 where
  pub walk : IsWalking graph after [] order
  pub empty : stack ≡ []
  pub met : KeepsMet marks after
  pub here : IsMet after root
  pub only : (roots : List ℕ) → Has roots root → MetAreReached graph roots marks → MetAreReached graph roots after
