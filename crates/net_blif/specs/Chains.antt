-- Models inside models: those that contain themselves, and how deep they stand. Source: the Berkeley Logic Interchange Format (BLIF), University of California, Berkeley.
use Rattle.std.specs.Prelude.{◌≡◌, ℕ, zero, suc, Bool, true, List, [], ◌∷◌, map, flat_map, Some, slice_get, Ok, Err, if◌then◌else◌}
use Rattle.std.specs.List.{list_any}
use Rattle.std.specs.Option.{option_map_or}
use Rattle.outcome.specs.Outcome.{Outcome, Returns}
use Rattle.graph_core.specs.Graph.{Graph, edges}
use Rattle.graph_core.specs.Cycle.{IsGrounded, IsCycleOf}
use Rattle.net_blif.specs.Design.{ModelValue, model_named, name_of}
use Rattle.net_blif.specs.declared.item.Item.{Item}
use Rattle.net_blif.specs.declared.item.Item.TheVariants.{Instance}
use Rattle.net_blif.specs.declared.fault.BlifFault.{BlifFault}
use Rattle.net_blif.specs.declared.fault.BlifFault.TheVariants.{Recursive, TooDeep}

-- the model of which an item is an instance
abbrev pub models_in : List ModelValue → Item → List ℕ
models_in models (Instance line name connections) = option_map_or (λ model. model ∷ []) (model_named models name) []
models_in models item = []

-- the models of the instances of a model, in order of the lines
abbrev pub row_of : List ModelValue → List Item → List ℕ
row_of models items = flat_map (models_in models) items

-- each model leads to those of its instances
abbrev pub graph_of : List ModelValue → Graph
graph_of models = map (λ (m : ModelValue). row_of models m.items) models

-- A walk from the top, in order of lines and depth first, ends; or it meets a model that is on its own path, the first of the
-- cycle that it finds.
abbrev pub WalkEnds : List ModelValue → Outcome BlifFault (Unit {0})
WalkEnds models (Ok _) = IsGrounded (graph_of models) 0
WalkEnds models (Err (Recursive name)) = (cycle : List ℕ) × (model : ℕ) × IsCycleOf (graph_of models) (0 ∷ []) cycle × (slice_get cycle 0 ≡ Some model) × (name ≡ name_of models model)
WalkEnds models (Err fault) = ⊥

-- whether n edges, one after another, lead on from a point
unfoldable pub leads_on : Graph → ℕ → ℕ → Bool
leads_on graph zero a = true
leads_on graph (suc n) a = list_any (λ b. leads_on graph n b) (edges graph a)

-- no chain of instances from the top has more than 64 models: none leads on 64 times
abbrev pub AreWithinDepth : List ModelValue → Outcome BlifFault (Unit {0})
AreWithinDepth models = Returns (if leads_on (graph_of models) 64 0 then Err TooDeep else Ok tt)
