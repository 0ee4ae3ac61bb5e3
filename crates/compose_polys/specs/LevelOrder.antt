-- The points of a graph by level. Source: a topological order, as in Knuth, The Art of Computer Programming, section 2.2.3; levels are
-- the lengths of the longest paths, counted in points.
use Rattle.std.specs.Prelude.{◌≡◌, ℕ, zero, suc, ◌+◌, ◌<◌, max, List, [], ◌∷◌, ◌++◌, Some, length, slice_get, slice_index}
use Rattle.lists.specs.Lists.{Has}
use Rattle.graph_core.specs.Graph.{edges, Graph}
use Rattle.net_core.specs.Order.{IsBefore}

-- the numbers below n
abbrev pub first_numbers : ℕ → List ℕ
first_numbers zero = []
first_numbers (suc n) = first_numbers n ++ n ∷ []

-- more than the level of each of these points, and at least m
abbrev pub level_from : List ℕ → ℕ → List ℕ → ℕ
level_from levels m [] = m
level_from levels m (b ∷ bs) = level_from levels (max m (slice_index levels b + 1)) bs

-- one more than the greatest level of the points, and 1 where there are none
abbrev pub level_over : List ℕ → List ℕ → ℕ
level_over levels bs = level_from levels 1 bs

-- the level of each point, which is over those to which it leads
pub record AreLevels (graph : Graph) (levels : List ℕ) : Type 0 where
  pub long : length levels ≡ length graph
  pub over : (a l : ℕ) → slice_get levels a ≡ Some l → l ≡ level_over levels (edges graph a)

-- each point, by rising level and then by rising number
pub record IsOrderBy (levels order : List ℕ) : Type 0 where
  pub long : length order ≡ length levels
  pub each : (a : ℕ) → a < length levels → Has order a
  pub within : (a : ℕ) → Has order a → a < length levels
  pub rises : (i a b : ℕ) → slice_get order i ≡ Some a → slice_get order (i + 1) ≡ Some b → IsBefore (slice_index levels a) a (slice_index levels b) b

-- that order, by the levels of the graph
abbrev pub IsLevelOrder : Graph → List ℕ → Type 0
IsLevelOrder graph order = (levels : List ℕ) × AreLevels graph levels × IsOrderBy levels order
