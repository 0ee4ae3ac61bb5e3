-- From which points n edges lead on. Source: this project's own.
use Rattle.std.specs.Prelude.{◌≡◌, ℕ, ◌<◌, Bool, false, List, Some, length, slice_get, slice_index_or}
use Rattle.std.specs.List.{list_any}
use Rattle.graph_core.specs.Graph.{Graph, edges}
use Rattle.net_blif.specs.Chains.{leads_on}

-- a mark for each of the first n points
pub record AreMarks (mark : ℕ → Bool) (n : ℕ) (marks : List Bool) : Type 0 where
  pub long : length marks ≡ n
  pub each : (a : ℕ) → a < n → slice_get marks a ≡ Some (mark a)

-- the points from which n edges lead on
abbrev pub LeadOn : Graph → ℕ → List Bool → Type 0
LeadOn graph n marks = AreMarks (leads_on graph n) (length graph) marks

-- whether a point leads to a marked one
abbrev pub leads_to : Graph → List Bool → ℕ → Bool
leads_to graph marks a = list_any (λ b. slice_index_or marks b false) (edges graph a)

abbrev pub LeadTo : Graph → List Bool → List Bool → Type 0
LeadTo graph marks more = AreMarks (leads_to graph marks) (length graph) more
