-- The design of a written text, and the walk over its model.
use Rattle.std.proofs.Common.{◌≡◌, ◌∙◌, ap, sym, refl, ℕ, suc, true, false, not, List, [], ◌∷◌, ◌++◌, map, None, Some, Ok, codes}
use Rattle.std.specs.Prelude.{flat_map, slice_get}
use Rattle.std.specs.List.{list_all}
use Rattle.std.proofs.lemmas.List.{map-append}
use Rattle.graph_core.specs.Graph.{Graph, HasEdge, edges}
use Rattle.graph_core.specs.Cycle.{IsGrounded, grounded}
use Rattle.net_core.specs.NetList.{NetList}
use Rattle.net_core.specs.Sound.{IsSound}
use Rattle.net_blif.specs.Chains.{AreWithinDepth, graph_of, leads_on, row_of}
use Rattle.net_blif.specs.Design.{ModelValue}
use Rattle.net_blif.specs.Instances.{first_found, instance_fault, instances_fault}
use Rattle.net_blif.specs.Lines.{lines_of}
use Rattle.net_blif.specs.Models.{AreRight, BlifDesign, HasModel, Reads, start}
use Rattle.net_blif.specs.Top.{is_instance}
use Rattle.net_blif.specs.declared.item.Item.{Item}
use Rattle.net_blif.specs.declared.item.Item.TheVariants.{Inputs, Outputs, Gate, Latch, Instance}
use Rattle.net_blif.proofs.RightLemmas.{right}
use Rattle.net_flat.specs.Paths.{At, Path, Scope, top}
use Rattle.net_flat.specs.Steps.{Step, along, steps_of}
use Rattle.net_flat.specs.Walk.{lines_in, walk_of, walk_within}
use Rattle.net_write.specs.Plain.{HasPlainNames}
use Rattle.net_write.specs.Written.{statements_of, written}
use Rattle.net_write.proofs.LineTextLemmas.{numbered, text_lines}
use Rattle.net_write.proofs.SaidLemmas.{Walks, ended, net_walk, statements_read}

-- no item is an instance
abbrev pub AreNoInstances : List Item → Type 0
AreNoInstances items = list_all (λ item. not (is_instance item)) items ≡ true

-- a design of one model of this name
abbrev pub make_of : List Item → List ModelValue
make_of items = record { name = codes "make"; items = items } ∷ []

no_fault : (models : List ModelValue) (items : List Item) → AreNoInstances items → first_found (instance_fault models) items ≡ None
no_fault models [] none = refl
no_fault models (Inputs nets ∷ items) none = no_fault models items none
no_fault models (Outputs nets ∷ items) none = no_fault models items none
no_fault models (Gate line inputs out table ∷ items) none = no_fault models items none
no_fault models (Latch line next out start ∷ items) none = no_fault models items none
no_fault models (Instance line model connections ∷ items) none = absurd (cc)

no_row : (models : List ModelValue) (items : List Item) → AreNoInstances items → row_of models items ≡ []
no_row models [] none = refl
no_row models (Inputs nets ∷ items) none = no_row models items none
no_row models (Outputs nets ∷ items) none = no_row models items none
no_row models (Gate line inputs out table ∷ items) none = no_row models items none
no_row models (Latch line next out start ∷ items) none = no_row models items none
no_row models (Instance line model connections ∷ items) none = absurd (cc)

no_edge : (items : List Item) → AreNoInstances items → edges (graph_of (make_of items)) 0 ≡ []
no_edge items none = no_row (make_of items) items none

gone : (xs : List ℕ) (k b : ℕ) → xs ≡ [] → slice_get xs k ≡ Some b → ⊥
gone [] k b e at = cc
gone (x ∷ xs) k b e at = cc

ends_here : (graph : Graph) (a : ℕ) → edges graph a ≡ [] → IsGrounded graph a
ends_here graph a none = grounded a (λ b edge. absurd (never b edge))
  where
    never : (b : ℕ) → HasEdge graph a b → ⊥
    never b (k, at) = gone (edges graph a) k b none at

leads_nowhere : (graph : Graph) (n : ℕ) → edges graph 0 ≡ [] → leads_on graph (suc n) 0 ≡ false
unfolding leads_on
leads_nowhere graph n none = rw none refl

-- nothing is wrong with it
make_right : (items : List Item) → AreNoInstances items → AreRight (make_of items) (Ok tt)
make_right items none =
    let clean : instances_fault (make_of items) ≡ None = rw (no_fault (make_of items) items none) refl in
    let shallow : AreWithinDepth (make_of items) (Ok tt) = let stops : leads_on (graph_of (make_of items)) 64 0 ≡ false = leads_nowhere (graph_of (make_of items)) 63 (no_edge items none) in rw stops refl in
    right (make_of items) clean (ends_here (graph_of (make_of items)) 0 (no_edge items none)) shallow

module _ (net : NetList) (sound : IsSound net) (plain : HasPlainNames net) where
  -- the written text has one model, over whose items a walk does what the net asks
  pub designed : (items : List Item) × BlifDesign (written net) (Ok (make_of items)) × Walks items (net_walk net)
  designed =
      let ends = statements_read net sound plain in
      let lines_are : lines_of (written net) ≡ numbered 1 (statements_of net) = text_lines 1 (statements_of net) ends.3 in
      let model : HasModel (lines_of (written net)) (Ok tt) = rw lines_are refl in
      let reads : Reads start (lines_of (written net)) (Ok (ended ends.0)) = rw lines_are ends.1 in
      (ends.0, (tt, model, (ended ends.0, reads, (tt, make_right ends.0 ends.2.no_instance, refl))), ends.2)

-- a net of the chosen model
abbrev pub in_top : List ℕ → Path
in_top name = At [] name

lines_walk : (inside : Scope → ℕ → List (Step Path)) (design : List ModelValue) (number : ℕ) (items : List Item) → AreNoInstances items → lines_in inside design top number items ≡ map (along in_top) (flat_map (steps_of true) items)
lines_walk inside design number [] none = refl
lines_walk inside design number (Inputs nets ∷ items) none = ap (λ (l : List (Step Path)). map (along in_top) (steps_of true (Inputs nets)) ++ l) (lines_walk inside design number items none) ∙ sym (map-append (along in_top) (steps_of true (Inputs nets)) (flat_map (steps_of true) items))
lines_walk inside design number (Outputs nets ∷ items) none = ap (λ (l : List (Step Path)). map (along in_top) (steps_of true (Outputs nets)) ++ l) (lines_walk inside design number items none) ∙ sym (map-append (along in_top) (steps_of true (Outputs nets)) (flat_map (steps_of true) items))
lines_walk inside design number (Gate line inputs out table ∷ items) none = ap (λ (l : List (Step Path)). map (along in_top) (steps_of true (Gate line inputs out table)) ++ l) (lines_walk inside design number items none) ∙ sym (map-append (along in_top) (steps_of true (Gate line inputs out table)) (flat_map (steps_of true) items))
lines_walk inside design number (Latch line next out start ∷ items) none = ap (λ (l : List (Step Path)). map (along in_top) (steps_of true (Latch line next out start)) ++ l) (lines_walk inside design number items none) ∙ sym (map-append (along in_top) (steps_of true (Latch line next out start)) (flat_map (steps_of true) items))
lines_walk inside design number (Instance line model connections ∷ items) none = absurd (cc)

-- the walk over the model
pub make_walk : (items : List Item) (steps : List (Step (List ℕ))) → Walks items steps → walk_of (make_of items) 0 ≡ map (along in_top) steps
unfolding walk_within
make_walk items steps walks = lines_walk (walk_within 63 (make_of items)) (make_of items) 1 items walks.no_instance ∙ ap (map (along in_top)) walks.steps_are
