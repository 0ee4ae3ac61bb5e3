-- Gates of a walk drive nets that exist.
use Rattle.std.proofs.Common.{◌≡◌, refl, subst, ℕ, zero, suc, ◌<◌, ◌≤◌, ◌+◌, ◌^◌, Bool, true, false, cond, List, [], ◌∷◌, ◌++◌, map, length, get_or, Option, None, Some, Result, Ok, Err, arith}
use Rattle.std.specs.Prelude.{All, unwrap_or, nat_le}
use Rattle.std.proofs.lemmas.List.{length-append, length-map}
use Rattle.std.proofs.lemmas.List.Elements.{All-append, All-weaker}
use Rattle.net_core.specs.GateValue.{GateValue}
use Rattle.net_core.proofs.DriverLemmas.{DriveNets}
use Rattle.net_core.specs.declared.latch.Start.{Start}
use Rattle.net_core.specs.declared.fault.NetFault.TheVariants as faults
use Rattle.std.specs.Option.{option_map_or}
use Rattle.outcome.specs.Steps.{on_value}
use Rattle.net_blif.specs.Statement.{Token}
use Rattle.net_blif.specs.Design.{ModelValue, items_of, model_named}
use Rattle.net_flat.specs.Paths.{inner, label_of, path_in, same_path, top, Path, Scope}
use Rattle.net_flat.specs.Steps.{along, steps_of, Step, Mention, Input, Output, Gate, Latch, Enter}
use Rattle.net_flat.specs.Walk.{body_in, is_top, lines_in, next_number, steps_in, walk_of, walk_within}
use Rattle.net_flat.specs.Flat.{after_step, gate_on, latch_on, net_list, nothing, number, place_from, walked, was_mentioned, Flat}
use Rattle.net_flat.specs.declared.flat_fault.FlatFault.{FlatFault}
use Rattle.net_flat.specs.declared.flat_fault.FlatFault.TheVariants.{Net, TooManyInstances}
use Rattle.net_blif.specs.declared.item.Item.{Item}
use Rattle.net_blif.specs.declared.item.Item.TheVariants as items

-- gates drive nets below a bound
abbrev pub DriveBelow : ℕ → List GateValue → Type 0
DriveBelow n gates = All (λ (g : GateValue). g.out < n) gates

-- something was mentioned, and gates drive what was
record Drives (flat : Flat) : Type 0 where
  some : 1 ≤ length flat.paths
  gates : DriveBelow (length flat.paths) flat.gates

place_below : (n : ℕ) (paths : List Path) (path : Path) (k : ℕ) → place_from n paths path ≡ Some k → k < n + length paths
place_below n [] path k found = absurd (cc)
place_below n (p ∷ ps) path k found =
    elim (same_path path p) as (λ b. cond b (Some n) (place_from (n + 1) ps path) ≡ Some k → k < n + suc (length ps)) [
      | true ↦ λ e. let same : n ≡ k = cc in omega arith
      | false ↦ λ e. let less = place_below (n + 1) ps path k e in omega arith
    ] found

number_below : (flat : Flat) (path : Path) → 1 ≤ length flat.paths → number flat path < length flat.paths
number_below flat path some = by (place_from 0 flat.paths path) refl
  where
    by : (found : Option ℕ) → place_from 0 flat.paths path ≡ found → unwrap_or found 0 < length flat.paths
    by None is = omega arith
    by (Some k) is = let less = place_below 0 flat.paths path k is in omega arith

module _ (flat : Flat) (drives : Drives flat) where
  with_path : (path : Path) → Drives (record flat { paths = flat.paths ++ path ∷ [] })
  with_path path =
      let more : length (flat.paths ++ path ∷ []) ≡ length flat.paths + 1 = length-append flat.paths (path ∷ []) in
      record { some = omega arith; gates = All-weaker (λ g. g.out < length flat.paths) (λ g. g.out < length (flat.paths ++ path ∷ [])) (λ g less. omega (arith, less, more)) flat.gates drives.gates }

  with_one : (inputs : List Path) (out : Path) (table : ℕ) → Drives (record flat { gates = flat.gates ++ gate_on flat inputs out table ∷ [] })
  with_one inputs out table = record { some = drives.some; gates = All-append (λ g. g.out < length flat.paths) flat.gates (gate_on flat inputs out table ∷ []) drives.gates one }
    where
      one : (k : ℕ) (d : GateValue) → k < 1 → (get_or (gate_on flat inputs out table ∷ []) k d).out < length flat.paths
      one zero d less = number_below flat out drives.some
      one (suc k) d less = absurd (omega arith)

  module _ (next : Flat) where
    became : (made : Flat) → Drives made → ◌≡◌ {A = Result Flat FlatFault} (Ok made) (Ok next) → Drives next
    became made is e = let same : made ≡ next = cc in let P : Flat → Type 0 = Drives in subst P same is

    mention_drives : (path : Path) → after_step flat (Mention path) ≡ Ok next → Drives next
    mention_drives path made = by (was_mentioned flat path) (nat_le (2 ^ 20) (length flat.paths)) made
      where
        by : (b c : Bool) → cond b (Ok flat) (cond c (Err (Net faults.TooManyNets)) (Ok (record flat { paths = flat.paths ++ path ∷ [] }))) ≡ Ok next → Drives next
        by true c e = became flat drives e
        by false true e = absurd (cc)
        by false false e = became (record flat { paths = flat.paths ++ path ∷ [] }) (with_path path) e

    gate_drives : (inputs : List Path) (out : Path) (table : ℕ) → after_step flat (Gate inputs out table) ≡ Ok next → Drives next
    gate_drives inputs out table made = by (nat_le (2 ^ 20) (length flat.gates + length flat.latches)) made
      where
        by : (b : Bool) → cond b (Err (Net faults.TooManyGates)) (Ok (record flat { gates = flat.gates ++ gate_on flat inputs out table ∷ [] })) ≡ Ok next → Drives next
        by true e = absurd (cc)
        by false e = became (record flat { gates = flat.gates ++ gate_on flat inputs out table ∷ [] }) (with_one inputs out table) e

    latch_drives : (first out : Path) (start : Start) → after_step flat (Latch first out start) ≡ Ok next → Drives next
    latch_drives first out start made = by (nat_le (2 ^ 20) (length flat.gates + length flat.latches)) made
      where
        by : (b : Bool) → cond b (Err (Net faults.TooManyGates)) (Ok (record flat { latches = flat.latches ++ latch_on flat first out start ∷ [] })) ≡ Ok next → Drives next
        by true e = absurd (cc)
        by false e = became (record flat { latches = flat.latches ++ latch_on flat first out start ∷ [] }) (record { some = drives.some; gates = drives.gates }) e

    enter_drives : after_step flat Enter ≡ Ok next → Drives next
    enter_drives made = by (nat_le (2 ^ 20) flat.instances) made
      where
        by : (b : Bool) → cond b (Err TooManyInstances) (Ok (record flat { instances = flat.instances + 1 })) ≡ Ok next → Drives next
        by true e = absurd (cc)
        by false e = became (record flat { instances = flat.instances + 1 }) (record { some = drives.some; gates = drives.gates }) e

    step_drives : (step : Step Path) → after_step flat step ≡ Ok next → Drives next
    step_drives (Mention path) made = mention_drives path made
    step_drives (Input path) made = became (record flat { inputs = flat.inputs ++ number flat path ∷ [] }) (record { some = drives.some; gates = drives.gates }) made
    step_drives (Output path) made = became (record flat { outputs = flat.outputs ++ number flat path ∷ [] }) (record { some = drives.some; gates = drives.gates }) made
    step_drives (Gate inputs out table) made = gate_drives inputs out table made
    step_drives (Latch first out start) made = latch_drives first out start made
    step_drives Enter made = enter_drives made

further_drives : (flat more : Flat) (steps : List (Step Path)) → Drives flat → walked flat steps ≡ Ok more → Drives more
further_drives flat more [] drives made = became flat drives more flat drives made
further_drives flat more (step ∷ steps) drives made = by (λ next is e. further_drives next more steps is e) (after_step flat step) refl made
  where
    by : ((next : Flat) → Drives next → walked next steps ≡ Ok more → Drives more) → (r : Result Flat FlatFault) → after_step flat step ≡ r → on_value (λ m. walked m steps) r ≡ Ok more → Drives more
    by rest (Ok next) is e = rest next (step_drives flat drives next step is) e
    by rest (Err fault) is e = absurd (cc)

-- steps of which the first that enters no instance is a mention
abbrev BeginsWell : List (Step Path) → Type 0
BeginsWell [] = Unit {0}
BeginsWell (Mention path ∷ steps) = Unit {0}
BeginsWell (Enter ∷ steps) = BeginsWell steps
BeginsWell (Input path ∷ steps) = ⊥
BeginsWell (Output path ∷ steps) = ⊥
BeginsWell (Gate inputs out table ∷ steps) = ⊥
BeginsWell (Latch next out start ∷ steps) = ⊥

begins_first : (xs ys : List (Step Path)) → BeginsWell xs → BeginsWell ys → BeginsWell (xs ++ ys)
begins_first [] ys first second = second
begins_first (Mention path ∷ xs) ys first second = tt
begins_first (Enter ∷ xs) ys first second = begins_first xs ys first second
begins_first (Input path ∷ xs) ys first second = absurd first
begins_first (Output path ∷ xs) ys first second = absurd first
begins_first (Gate inputs out table ∷ xs) ys first second = absurd first
begins_first (Latch next out start ∷ xs) ys first second = absurd first

item_begins : (f : Token → Path) (is : Bool) (item : Item) → BeginsWell (map (along f) (steps_of is item))
item_begins f is (items.Inputs []) = tt
item_begins f true (items.Inputs (net ∷ nets)) = tt
item_begins f false (items.Inputs (net ∷ nets)) = tt
item_begins f is (items.Outputs []) = tt
item_begins f true (items.Outputs (net ∷ nets)) = tt
item_begins f false (items.Outputs (net ∷ nets)) = tt
item_begins f is (items.Gate line [] out table) = tt
item_begins f is (items.Gate line (net ∷ nets) out table) = tt
item_begins f is (items.Latch line next out start) = tt
item_begins f is (items.Instance line model []) = tt
item_begins f is (items.Instance line model (connection ∷ connections)) = tt

module _ (design : List ModelValue) (inside : Scope → ℕ → List (Step Path)) (begins : (scope : Scope) (model : ℕ) → BeginsWell (inside scope model)) where
  body_begins : (scope : Scope) (n : ℕ) (item : Item) → BeginsWell (body_in inside design scope n item)
  body_begins scope n (items.Inputs nets) = tt
  body_begins scope n (items.Outputs nets) = tt
  body_begins scope n (items.Gate line inputs out table) = tt
  body_begins scope n (items.Latch line next out start) = tt
  body_begins scope n (items.Instance line name connections) = by (model_named design name)
    where
      by : (found : Option ℕ) → BeginsWell (option_map_or (inside (inner scope n connections)) found [])
      by None = tt
      by (Some model) = begins (inner scope n connections) model

  lines_begin : (scope : Scope) (n : ℕ) (lines : List Item) → BeginsWell (lines_in inside design scope n lines)
  lines_begin scope n [] = tt
  lines_begin scope n (item ∷ lines) =
      let rest = lines_in inside design scope (next_number n item) lines in
      begins_first (steps_in scope item) (body_in inside design scope n item ++ rest) (item_begins (path_in scope) (is_top scope.trail) item)
      (begins_first (body_in inside design scope n item) rest (body_begins scope n item) (lines_begin scope (next_number n item) lines))

walk_begins : (depth : ℕ) (design : List ModelValue) (scope : Scope) (model : ℕ) → BeginsWell (walk_within depth design scope model)
unfolding walk_within
walk_begins zero design scope model = tt
walk_begins (suc depth) design scope model = lines_begin design (walk_within depth design) (walk_begins depth design) scope 1 (items_of design model)

-- nothing but instances was met
abbrev entered_only : ℕ → Flat
entered_only n = record nothing { instances = n }

from_nothing : (steps : List (Step Path)) (n : ℕ) (flat : Flat) → BeginsWell steps → walked (entered_only n) steps ≡ Ok flat → DriveBelow (length flat.paths) flat.gates
from_nothing [] n flat begins made = let same : entered_only n ≡ flat = cc in let P : Flat → Type 0 = λ f. DriveBelow (length f.paths) f.gates in subst P same (λ k d less. absurd (omega arith))
from_nothing (Mention path ∷ steps) n flat begins made = (further_drives (record (entered_only n) { paths = path ∷ [] }) flat steps (record { some = omega arith; gates = λ k d less. absurd (omega arith) }) made).gates
from_nothing (Enter ∷ steps) n flat begins made = by (λ e. from_nothing steps (n + 1) flat begins e) (nat_le (2 ^ 20) n) made
  where
    by : (walked (entered_only (n + 1)) steps ≡ Ok flat → DriveBelow (length flat.paths) flat.gates) → (b : Bool) → on_value (λ more. walked more steps) (cond b (Err TooManyInstances) (Ok (entered_only (n + 1)))) ≡ Ok flat → DriveBelow (length flat.paths) flat.gates
    by rest true e = absurd (cc)
    by rest false e = rest e
from_nothing (Input path ∷ steps) n flat begins made = absurd begins
from_nothing (Output path ∷ steps) n flat begins made = absurd begins
from_nothing (Gate inputs out table ∷ steps) n flat begins made = absurd begins
from_nothing (Latch next out start ∷ steps) n flat begins made = absurd begins

-- what the lines of a model place drives nets that exist
pub walk_drives : (design : List ModelValue) (model : ℕ) (flat : Flat) → walked nothing (walk_of design model) ≡ Ok flat → DriveNets (net_list flat)
walk_drives design model flat made = rw (length-map flat.paths label_of) (from_nothing (walk_of design model) 0 flat (walk_begins 64 design top model) made)
