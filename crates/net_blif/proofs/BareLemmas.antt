-- Models without instances: nothing is wrong with them.
use Rattle.std.proofs.Common.{◌≡◌, ◌∙◌, ap, sym, refl, ℕ, zero, suc, ◌+◌, ◌<◌, Bool, true, false, cond, ◌||◌, List, [], ◌∷◌, map, length, drop, Option, None, Some, Result, Ok, Err}
use Rattle.std.specs.Prelude.{slice_get, unwrap_or}
use Rattle.std.specs.List.{list_any}
use Rattle.lists.specs.laws.BoolLaws.{neither}
use Rattle.graph_core.specs.Graph.{edges, HasEdge}
use Rattle.graph_core.specs.Cycle.{grounded}
use Rattle.net_blif.specs.Statement.{Token}
use Rattle.net_blif.specs.Design.{ModelValue, items_of}
use Rattle.net_blif.specs.Instances.{first_found, instance_fault, or_else}
use Rattle.net_blif.specs.Chains.{graph_of, leads_on, row_of, AreWithinDepth, WalkEnds}
use Rattle.net_blif.specs.Models.{AreRight}
use Rattle.net_blif.specs.Places.{item_at, items_at}
use Rattle.net_blif.specs.Top.{is_instance}
use Rattle.net_blif.specs.private.Bare.{has_instances, is_instance_place}
use Rattle.net_blif.specs.declared.item.Item.{Item}
use Rattle.net_blif.specs.declared.item.Item.TheVariants.{Inputs, Outputs, Gate, Latch, Instance}
use Rattle.net_blif.specs.declared.item_list.Place.{Place}
use Rattle.net_blif.specs.declared.item_list.Place.TheVariants as places
use Rattle.net_blif.specs.declared.fault.BlifFault.{BlifFault}
use Rattle.net_blif.specs.declared.fault.BlifFault.TheVariants.{TooDeep}
use Rattle.net_blif.proofs.ChainLemmas.{leads_suc}
use Rattle.net_blif.proofs.InstanceLemmas.{model_got}
use Rattle.net_blif.proofs.RightLemmas.{right}
use Rattle.net_blif.proofs.StepLemmas.{rest_got}

-- ---- whether there are instances

place_same : (tokens : List Token) (place : Place) → is_instance_place place ≡ is_instance (item_at tokens place)
place_same tokens (places.Inputs first end) = refl
place_same tokens (places.Outputs first end) = refl
place_same tokens (places.Gate line first end table) = refl
place_same tokens (places.Latch line first start) = refl
place_same tokens (places.Instance line first end) = refl

pub places_same : (tokens : List Token) (list : List Place) → list_any is_instance_place list ≡ list_any is_instance (items_at tokens list)
places_same tokens [] = refl
places_same tokens (place ∷ list) =
    ap (λ b. b || list_any is_instance_place list) (place_same tokens place) ∙ ap (λ b. is_instance (item_at tokens place) || b) (places_same tokens list)

-- one model after another
module _ (models : List ModelValue) (k : ℕ) (items : List Item) (whole : Bool) (below : k < length models) (is : items ≡ items_of models k) (so_far : whole ≡ list_any has_instances (drop k models)) where
  at_model : whole ≡ (list_any is_instance items || list_any has_instances (drop (k + 1) models))
  at_model =
      let m = model_got models k below in
      so_far
      ∙ (ap (list_any has_instances) (rest_got models k m.0 m.1)
      ∙ ap (λ (xs : List Item). list_any is_instance xs || list_any has_instances (drop (k + 1) models)) (sym (is ∙ m.2)))

  pub instances_later : list_any is_instance items ≡ false → whole ≡ list_any has_instances (drop (k + 1) models)
  instances_later none = at_model ∙ ap (λ b. b || list_any has_instances (drop (k + 1) models)) none

  pub instances_here : list_any is_instance items ≡ true → whole ≡ true
  instances_here some = at_model ∙ ap (λ b. b || list_any has_instances (drop (k + 1) models)) some

-- ---- where there are none

bare_fault : (models : List ModelValue) (items : List Item) → list_any is_instance items ≡ false → first_found (instance_fault models) items ≡ None
bare_fault models [] none = refl
bare_fault models (Inputs nets ∷ items) none = bare_fault models items none
bare_fault models (Outputs nets ∷ items) none = bare_fault models items none
bare_fault models (Gate line inputs out table ∷ items) none = bare_fault models items none
bare_fault models (Latch line next out start ∷ items) none = bare_fault models items none
bare_fault models (Instance line name connections ∷ items) none = absurd (cc)

bare_faults : (all models : List ModelValue) → list_any has_instances models ≡ false → first_found (λ (m : ModelValue). first_found (instance_fault all) m.items) models ≡ None
bare_faults all [] none = refl
bare_faults all (m ∷ models) none =
    let parts = neither (has_instances m) (list_any has_instances models) none in
    ap (λ (o : Option BlifFault). or_else o (first_found (λ (m : ModelValue). first_found (instance_fault all) m.items) models)) (bare_fault all m.items parts.0) ∙ bare_faults all models parts.1

bare_row : (models : List ModelValue) (items : List Item) → list_any is_instance items ≡ false → row_of models items ≡ []
bare_row models [] none = refl
bare_row models (Inputs nets ∷ items) none = bare_row models items none
bare_row models (Outputs nets ∷ items) none = bare_row models items none
bare_row models (Gate line inputs out table ∷ items) none = bare_row models items none
bare_row models (Latch line next out start ∷ items) none = bare_row models items none
bare_row models (Instance line name connections ∷ items) none = absurd (cc)

bare_rows : (all models : List ModelValue) (a : ℕ) → list_any has_instances models ≡ false → unwrap_or (slice_get (map (λ (m : ModelValue). row_of all m.items) models) a) [] ≡ []
bare_rows all [] a none = refl
bare_rows all (m ∷ models) zero none = bare_row all m.items (neither (has_instances m) (list_any has_instances models) none).0
bare_rows all (m ∷ models) (suc a) none = bare_rows all models a (neither (has_instances m) (list_any has_instances models) none).1

-- what is answered of the depth
abbrev answered : Bool → Result (Unit {0}) BlifFault
answered deep = cond deep (Err TooDeep) (Ok tt)

module _ (models : List ModelValue) (none : list_any has_instances models ≡ false) where
  bare_edges : (a : ℕ) → edges (graph_of models) a ≡ []
  bare_edges a = bare_rows models models a none

  no_edge : (a b : ℕ) → HasEdge (graph_of models) a b → ⊥
  no_edge a b edge =
      let lacks : slice_get (edges (graph_of models) a) edge.0 ≡ None = ap (λ (xs : List ℕ). slice_get xs edge.0) (bare_edges a) in
      let never : None ≡ Some b = sym lacks ∙ edge.1 in
      cc

  bare_walk : WalkEnds models (Ok tt)
  bare_walk = grounded 0 (λ b edge. absurd (no_edge 0 b edge))

  bare_depth : AreWithinDepth models (Ok tt)
  bare_depth =
      let ends : leads_on (graph_of models) 64 0 ≡ false = sym (leads_suc (graph_of models) 63 0) ∙ ap (list_any (λ b. leads_on (graph_of models) 63 b)) (bare_edges 0) in
      sym (ap answered ends)

  pub bare_right : AreRight models (Ok tt)
  bare_right = right models (bare_faults models models none) bare_walk bare_depth
