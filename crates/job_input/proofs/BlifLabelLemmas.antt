-- The labels of the nets of a walk have no line feed, and a limit that stops the walk repeats nothing.
use Rattle.std.proofs.Common.{◌≡◌, ◌⊎◌, ◌∙◌, inl, inr, refl, subst, ℕ, zero, suc, ◌≤◌, ◌^◌, ◌+◌, Bool, true, false, cond, List, [], ◌∷◌, ◌++◌, map, length, Option, None, Some, Result, Ok, Err, arith}
use Rattle.std.specs.Prelude.{codes, flat_map, nat_le}
use Rattle.std.specs.Fmt.{decimal}
use Rattle.std.specs.List.{AllByRecursion}
use Rattle.std.specs.Option.{option_map_or}
use Rattle.std.specs.Str.{bytes_eq}
use Rattle.std.proofs.lemmas.List.Elements.{All-drop, All-weaker}
use Rattle.lists.specs.laws.ListLaws.{all_append}
use Rattle.lists.specs.laws.OptionLaws.{same_ok as ok_same, same_fault}
use Rattle.outcome.specs.Steps.{on_value}
use Rattle.text_core.specs.Lines.{IsPrinting}
use Rattle.net_core.specs.NetList.{LabelValue}
use Rattle.net_core.specs.declared.fault.NetFault.TheVariants.{TooManyNets, TooManyGates}
use Rattle.net_blif.specs.Connection.{actual_of, formal_of}
use Rattle.net_blif.specs.Design.{ModelValue, items_of, model_named}
use Rattle.net_blif.specs.Models.{BlifDesign}
use Rattle.net_blif.specs.Statement.{Token}
use Rattle.net_blif.specs.declared.item.Item.{Item}
use Rattle.net_blif.specs.declared.item.Item.TheVariants as items
use Rattle.net_flat.specs.Flat.{Flat, nothing, after_step, walked, was_mentioned, gate_on, latch_on, net_list}
use Rattle.net_flat.specs.Paths.{At, Path, Scope, connected, inner, label_of, path_among, path_in, prefix_of, top}
use Rattle.net_flat.specs.Steps.{Step, Mention, Input, Output, Gate, Latch, Enter, along, actual_steps, input_steps, output_steps, steps_of}
use Rattle.net_flat.specs.Walk.{body_in, is_top, lines_in, next_number, steps_in, walk_of, walk_within}
use Rattle.net_flat.specs.declared.flat_fault.FlatFault.{FlatFault}
use Rattle.net_flat.specs.declared.flat_fault.FlatFault.TheVariants.{Net, TooManyInstances}
use Rattle.job_words.specs.OneLine.{HasNoLineFeed}
use Rattle.job_words.proofs.OneLineLemmas.{IsClean, clean_then, kept_clean, number_clean}
use Rattle.job_input.proofs.BlifTextLemmas.{ItemPrints, ModelPrints, design_prints}
use Rattle.job_input.proofs.LabelFaultLemmas.{HasCleanLabels}

pub printing_kept : (text : List ℕ) → IsPrinting text → HasNoLineFeed text
printing_kept text prints = All-weaker (λ b. (33 ≤ b) × (b ≤ 126)) (λ b. ¬ (b ≡ 10)) (λ b is e. absurd (omega (arith, is.0, e))) text prints

-- ---- the steps of a line

-- the net that a step mentions
abbrev Mentions : {N : Type 0} → (N → Type 0) → Step N → Type 0
Mentions P (Mention net) = P net
Mentions P step = Unit {0}

inputs_print : (is : Bool) (nets : List Token) → AllByRecursion IsPrinting nets → AllByRecursion (Mentions IsPrinting) (flat_map (input_steps is) nets)
inputs_print is [] all = tt
inputs_print true (net ∷ nets) all = (all.0, (tt, inputs_print true nets all.1))
inputs_print false (net ∷ nets) all = (all.0, inputs_print false nets all.1)

outputs_print : (is : Bool) (nets : List Token) → AllByRecursion IsPrinting nets → AllByRecursion (Mentions IsPrinting) (flat_map (output_steps is) nets)
outputs_print is [] all = tt
outputs_print true (net ∷ nets) all = (all.0, (tt, outputs_print true nets all.1))
outputs_print false (net ∷ nets) all = (all.0, outputs_print false nets all.1)

gate_prints : (nets : List Token) (rest : List (Step Token)) → AllByRecursion IsPrinting nets → AllByRecursion (Mentions IsPrinting) rest → AllByRecursion (Mentions IsPrinting) (map Mention nets ++ rest)
gate_prints [] rest all more = more
gate_prints (net ∷ nets) rest all more = (all.0, gate_prints nets rest all.1 more)

actual_prints : (connection : Token) → IsPrinting connection → IsPrinting (actual_of connection)
actual_prints connection prints = All-drop (λ b. (33 ≤ b) × (b ≤ 126)) (length (formal_of connection) + 1) connection prints

actuals_print : (connections : List Token) → AllByRecursion IsPrinting connections → AllByRecursion (Mentions IsPrinting) (actual_steps connections)
actuals_print [] all = tt
actuals_print (connection ∷ connections) all = (actual_prints connection all.0, actuals_print connections all.1)

steps_print : (is : Bool) (item : Item) → ItemPrints item → AllByRecursion (Mentions IsPrinting) (steps_of is item)
steps_print is (items.Inputs nets) prints = inputs_print is nets prints
steps_print is (items.Outputs nets) prints = outputs_print is nets prints
steps_print is (items.Gate line inputs out table) prints = gate_prints inputs (Mention out ∷ Gate inputs out table ∷ []) prints.0 (prints.1, (tt, tt))
steps_print is (items.Latch line first out begin) prints = (prints.0, (prints.1, (tt, tt)))
steps_print is (items.Instance line model connections) prints = (tt, actuals_print connections prints)

-- ---- the nets of a scope

abbrev PathPrints : Path → Type 0
PathPrints (At trail name) = IsPrinting name

abbrev ActualPrints : Token × Path → Type 0
ActualPrints actual = PathPrints actual.1

abbrev ScopePrints : Scope → Type 0
ScopePrints scope = AllByRecursion ActualPrints scope.actuals

among_prints : (actuals : List (Token × Path)) (own : Path) (name : Token) → AllByRecursion ActualPrints actuals → PathPrints own → PathPrints (path_among actuals own name)
among_prints [] own name all is = is
among_prints (actual ∷ actuals) own name all is = by (bytes_eq actual.0 name) (among_prints actuals own name all.1 is)
  where
    by : (b : Bool) → PathPrints (path_among actuals own name) → PathPrints (cond b actual.1 (path_among actuals own name))
    by true rest = all.0
    by false rest = rest

net_prints : (scope : Scope) → ScopePrints scope → (name : Token) → IsPrinting name → PathPrints (path_in scope name)
net_prints scope all name prints = among_prints scope.actuals (At scope.trail name) name all prints

inner_prints : (scope : Scope) (connections : List Token) → ScopePrints scope → AllByRecursion IsPrinting connections → AllByRecursion ActualPrints (map (connected scope) connections)
inner_prints scope [] within all = tt
inner_prints scope (connection ∷ connections) within all = (net_prints scope within (actual_of connection) (actual_prints connection all.0), inner_prints scope connections within all.1)

one_along : (f : Token → Path) → ((name : Token) → IsPrinting name → PathPrints (f name)) → (step : Step Token) → Mentions IsPrinting step → Mentions PathPrints (along f step)
one_along f each (Mention net) is = each net is
one_along f each (Input net) is = tt
one_along f each (Output net) is = tt
one_along f each (Gate inputs out table) is = tt
one_along f each (Latch first out begin) is = tt
one_along f each Enter is = tt

along_print : (f : Token → Path) → ((name : Token) → IsPrinting name → PathPrints (f name)) → (steps : List (Step Token)) → AllByRecursion (Mentions IsPrinting) steps → AllByRecursion (Mentions PathPrints) (map (along f) steps)
along_print f each [] all = tt
along_print f each (step ∷ steps) all = (one_along f each step all.0, along_print f each steps all.1)

-- ---- the walk

abbrev WalkPrints : List (Step Path) → Type 0
WalkPrints steps = AllByRecursion (Mentions PathPrints) steps

module _ (design : List ModelValue) (inside : Scope → ℕ → List (Step Path)) (prints : (scope : Scope) (model : ℕ) → ScopePrints scope → WalkPrints (inside scope model)) where
  body_prints : (scope : Scope) (n : ℕ) (item : Item) → ScopePrints scope → ItemPrints item → WalkPrints (body_in inside design scope n item)
  body_prints scope n (items.Inputs nets) within is = tt
  body_prints scope n (items.Outputs nets) within is = tt
  body_prints scope n (items.Gate line inputs out table) within is = tt
  body_prints scope n (items.Latch line first out begin) within is = tt
  body_prints scope n (items.Instance line name connections) within is = by (model_named design name)
    where
      by : (found : Option ℕ) → WalkPrints (option_map_or (inside (inner scope n connections)) found [])
      by None = tt
      by (Some model) = prints (inner scope n connections) model (inner_prints scope connections within is)

  lines_print : (scope : Scope) (n : ℕ) (lines : List Item) → ScopePrints scope → AllByRecursion ItemPrints lines → WalkPrints (lines_in inside design scope n lines)
  lines_print scope n [] within all = tt
  lines_print scope n (item ∷ lines) within all =
      let rest = lines_in inside design scope (next_number n item) lines in
      let body = body_in inside design scope n item in
      all_append (Mentions PathPrints) (steps_in scope item) (body ++ rest) (along_print (path_in scope) (net_prints scope within) (steps_of (is_top scope.trail) item) (steps_print (is_top scope.trail) item all.0))
      (all_append (Mentions PathPrints) body rest (body_prints scope n item within all.0) (lines_print scope (next_number n item) lines within all.1))

items_print : (design : List ModelValue) (model : ℕ) → AllByRecursion ModelPrints design → AllByRecursion ItemPrints (items_of design model)
items_print [] model all = tt
items_print (m ∷ design) zero all = all.0.1
items_print (m ∷ design) (suc model) all = items_print design model all.1

walk_prints : (depth : ℕ) (design : List ModelValue) → AllByRecursion ModelPrints design → (scope : Scope) (model : ℕ) → ScopePrints scope → WalkPrints (walk_within depth design scope model)
unfolding walk_within
walk_prints zero design all scope model within = tt
walk_prints (suc depth) design all scope model within = lines_print design (walk_within depth design) (walk_prints depth design all) scope 1 (items_of design model) within (items_print design model all)

-- ---- what the walk met

abbrev FlatPrints : Flat → Type 0
FlatPrints flat = AllByRecursion PathPrints flat.paths

module _ (flat more : Flat) (prints : FlatPrints flat) where
  same_paths : (made : Flat) → FlatPrints made → ◌≡◌ {A = Result Flat FlatFault} (Ok made) (Ok more) → FlatPrints more
  same_paths made is e = let P : Flat → Type 0 = FlatPrints in subst P (ok_same made more e) is

  unless : (b : Bool) (fault : FlatFault) (made : Flat) → FlatPrints made → ◌≡◌ {A = Result Flat FlatFault} (cond b (Err fault) (Ok made)) (Ok more) → FlatPrints more
  unless true fault made is e = absurd (cc)
  unless false fault made is e = same_paths made is e

  step_prints : (step : Step Path) → Mentions PathPrints step → after_step flat step ≡ Ok more → FlatPrints more
  step_prints (Mention path) is e = by (was_mentioned flat path) e
    where
      by : (b : Bool) → ◌≡◌ {A = Result Flat FlatFault} (cond b (Ok flat) (cond (nat_le (2 ^ 20) (length flat.paths)) (Err (Net TooManyNets)) (Ok (record flat { paths = flat.paths ++ path ∷ [] })))) (Ok more) → FlatPrints more
      by true e = same_paths flat prints e
      by false e = unless (nat_le (2 ^ 20) (length flat.paths)) (Net TooManyNets) (record flat { paths = flat.paths ++ path ∷ [] }) (all_append PathPrints flat.paths (path ∷ []) prints (is, tt)) e
  step_prints (Input path) is e = same_paths _ prints e
  step_prints (Output path) is e = same_paths _ prints e
  step_prints (Gate inputs out table) is e = unless (nat_le (2 ^ 20) (length flat.gates + length flat.latches)) (Net TooManyGates) (record flat { gates = flat.gates ++ gate_on flat inputs out table ∷ [] }) prints e
  step_prints (Latch first out begin) is e = unless (nat_le (2 ^ 20) (length flat.gates + length flat.latches)) (Net TooManyGates) (record flat { latches = flat.latches ++ latch_on flat first out begin ∷ [] }) prints e
  step_prints Enter is e = unless (nat_le (2 ^ 20) flat.instances) TooManyInstances (record flat { instances = flat.instances + 1 }) prints e

walked_prints : (flat : Flat) (steps : List (Step Path)) (more : Flat) → FlatPrints flat → WalkPrints steps → walked flat steps ≡ Ok more → FlatPrints more
walked_prints flat [] more prints all e = let P : Flat → Type 0 = FlatPrints in subst P (ok_same flat more e) prints
walked_prints flat (step ∷ steps) more prints all e = by (λ middle still f. walked_prints middle steps more still all.1 f) (after_step flat step) refl e
  where
    by : ((middle : Flat) → FlatPrints middle → walked middle steps ≡ Ok more → FlatPrints more) → (r : Result Flat FlatFault) → after_step flat step ≡ r → on_value (λ middle. walked middle steps) r ≡ Ok more → FlatPrints more
    by later (Ok middle) is e = later middle (step_prints flat middle prints step all.0 is) e
    by later (Err fault) is e = absurd (cc)

prefix_clean : (trail : List ℕ) → IsClean (prefix_of trail)
prefix_clean [] = refl
prefix_clean (number ∷ numbers) = clean_then (decimal number) (codes "/" ++ prefix_of numbers) (number_clean number) (prefix_clean numbers)

label_clean : (path : Path) → PathPrints path → IsClean (label_of path).text
label_clean (At [] name) prints = kept_clean name (printing_kept name prints)
label_clean (At (number ∷ numbers) name) prints = clean_then (prefix_of (number ∷ numbers)) name (prefix_clean (number ∷ numbers)) (kept_clean name (printing_kept name prints))

-- the labels of a walk's nets have no line feed
pub walk_labels : (text : List ℕ) (design : List ModelValue) (model : ℕ) (flat : Flat) → BlifDesign text (Ok design) → walked nothing (walk_of design model) ≡ Ok flat → HasCleanLabels (net_list flat)
walk_labels text design model flat said e = labels flat.paths (walked_prints nothing (walk_of design model) flat tt (walk_prints 64 design (design_prints text design said) top model tt) e)
  where
    labels : (paths : List Path) → AllByRecursion PathPrints paths → AllByRecursion (λ (l : LabelValue). IsClean l.text) (map label_of paths)
    labels [] all = tt
    labels (path ∷ paths) all = (label_clean path all.0, labels paths all.1)

-- ---- what stops a walk

-- a limit that a walk passes
abbrev pub IsLimit : FlatFault → Type 0
IsLimit fault = (fault ≡ Net TooManyNets) ⊎ (fault ≡ Net TooManyGates) ⊎ (fault ≡ TooManyInstances)

module _ (fault : FlatFault) where
  stopped : (b : Bool) (limit : FlatFault) (made : Flat) → IsLimit limit → ◌≡◌ {A = Result Flat FlatFault} (cond b (Err limit) (Ok made)) (Err fault) → IsLimit fault
  stopped true limit made is e = let P : FlatFault → Type 0 = IsLimit in subst P (same_fault limit fault e) is
  stopped false limit made is e = absurd (cc)

  stop_step : (flat : Flat) (step : Step Path) → after_step flat step ≡ Err fault → IsLimit fault
  stop_step flat (Mention path) e = by (was_mentioned flat path) e
    where
      by : (b : Bool) → ◌≡◌ {A = Result Flat FlatFault} (cond b (Ok flat) (cond (nat_le (2 ^ 20) (length flat.paths)) (Err (Net TooManyNets)) (Ok (record flat { paths = flat.paths ++ path ∷ [] })))) (Err fault) → IsLimit fault
      by true e = absurd (cc)
      by false e = stopped (nat_le (2 ^ 20) (length flat.paths)) (Net TooManyNets) (record flat { paths = flat.paths ++ path ∷ [] }) (inl refl) e
  stop_step flat (Input path) e = absurd (cc)
  stop_step flat (Output path) e = absurd (cc)
  stop_step flat (Gate inputs out table) e = stopped (nat_le (2 ^ 20) (length flat.gates + length flat.latches)) (Net TooManyGates) (record flat { gates = flat.gates ++ gate_on flat inputs out table ∷ [] }) (inr (inl refl)) e
  stop_step flat (Latch first out begin) e = stopped (nat_le (2 ^ 20) (length flat.gates + length flat.latches)) (Net TooManyGates) (record flat { latches = flat.latches ++ latch_on flat first out begin ∷ [] }) (inr (inl refl)) e
  stop_step flat Enter e = stopped (nat_le (2 ^ 20) flat.instances) TooManyInstances (record flat { instances = flat.instances + 1 }) (inr (inr refl)) e

pub walk_stops : (flat : Flat) (steps : List (Step Path)) (fault : FlatFault) → walked flat steps ≡ Err fault → IsLimit fault
walk_stops flat [] fault e = absurd (cc)
walk_stops flat (step ∷ steps) fault e = by (λ middle f. walk_stops middle steps fault f) (after_step flat step) refl e
  where
    by : ((middle : Flat) → walked middle steps ≡ Err fault → IsLimit fault) → (r : Result Flat FlatFault) → after_step flat step ≡ r → on_value (λ middle. walked middle steps) r ≡ Err fault → IsLimit fault
    by later (Ok middle) is e = later middle e
    by later (Err other) is e = stop_step fault flat step (is ∙ e)
