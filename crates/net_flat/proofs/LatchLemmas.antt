-- A whole of instances without latches has none.
use Rattle.std.proofs.Common.{◌≡◌, ◌∙◌, ap, sym, refl, ℕ, suc, ◌+◌, ◌^◌, Bool, true, false, cond, List, [], ◌∷◌, ◌++◌, map, filter, flat_map, length, Option, None, Some, Ok, Err, arith}
use Rattle.std.specs.Prelude.{nat_le, slice_get}
use Rattle.std.specs.Option.{option_map_or}
use Rattle.std.proofs.lemmas.List.{length-append, nil_from_length}
use Rattle.net_core.specs.declared.fault.NetFault.TheVariants as faults
use Rattle.net_blif.specs.Statement.{Token}
use Rattle.net_blif.specs.Design.{ModelValue, items_of, model_named}
use Rattle.net_blif.specs.Instances.{first_found}
use Rattle.net_blif.specs.Top.{connections_in, gate_line, instances_of, is_instance, line_in, model_in}
use Rattle.net_blif.specs.Chains.{AreWithinDepth}
use Rattle.net_blif.specs.declared.item.Item.{Item}
use Rattle.net_blif.specs.declared.item.Item.TheVariants as items
use Rattle.net_flat.specs.Paths.{inner, path_in, top, Path, Scope}
use Rattle.net_flat.specs.Steps.{actual_steps, along, input_steps, output_steps, Step, Mention, Input, Output, Gate, Latch, Enter}
use Rattle.net_flat.specs.Walk.{is_top, lines_in, steps_in, walk_of, walk_within}
use Rattle.net_flat.specs.Flat.{after_step, nothing, number, walked, was_mentioned, Flat}
use Rattle.net_flat.specs.declared.flat_fault.FlatFault.TheVariants.{Net}
use Rattle.net_flat.proofs.LiftLemmas.{lifted, start_aligned, walk_lifted, walk_some}
use Rattle.net_flat.proofs.DepthLemmas.{shallow_instance}
use Rattle.net_flat.proofs.GrownLemmas.{after_first, latch_made, gate_made, enter_made, same_of, with_net}

-- how many latches steps place
abbrev pub latches_in : List (Step Path) → ℕ
latches_in [] = 0
latches_in (Mention path ∷ steps) = latches_in steps
latches_in (Input path ∷ steps) = latches_in steps
latches_in (Output path ∷ steps) = latches_in steps
latches_in (Gate inputs out table ∷ steps) = latches_in steps
latches_in (Latch next out start ∷ steps) = suc (latches_in steps)
latches_in (Enter ∷ steps) = latches_in steps

latches_append : (xs ys : List (Step Path)) → latches_in (xs ++ ys) ≡ latches_in xs + latches_in ys
latches_append [] ys = omega arith
latches_append (Mention path ∷ xs) ys = latches_append xs ys
latches_append (Input path ∷ xs) ys = latches_append xs ys
latches_append (Output path ∷ xs) ys = latches_append xs ys
latches_append (Gate inputs out table ∷ xs) ys = latches_append xs ys
latches_append (Latch next out start ∷ xs) ys = omega (arith, latches_append xs ys)
latches_append (Enter ∷ xs) ys = latches_append xs ys

latches_lifted : (i : ℕ) (cs : List Token) (steps : List (Step Path)) → latches_in (lifted i cs steps) ≡ latches_in steps
latches_lifted i cs [] = refl
latches_lifted i cs (Mention path ∷ steps) = latches_lifted i cs steps
latches_lifted i cs (Input path ∷ steps) = latches_lifted i cs steps
latches_lifted i cs (Output path ∷ steps) = latches_lifted i cs steps
latches_lifted i cs (Gate inputs out table ∷ steps) = latches_lifted i cs steps
latches_lifted i cs (Latch next out start ∷ steps) = ap suc (latches_lifted i cs steps)
latches_lifted i cs (Enter ∷ steps) = latches_lifted i cs steps

mention_latches : (flat next : Flat) (path : Path) → after_step flat (Mention path) ≡ Ok next → next.latches ≡ flat.latches
mention_latches flat next path made = by (was_mentioned flat path) (nat_le (2 ^ 20) (length flat.paths)) made
  where
    by : (b c : Bool) → cond b (Ok flat) (cond c (Err (Net faults.TooManyNets)) (Ok (with_net flat path))) ≡ Ok next → next.latches ≡ flat.latches
    by true c e = let same : flat ≡ next = cc in ap (λ (f : Flat). f.latches) (sym same)
    by false true e = absurd (cc)
    by false false e = let same : with_net flat path ≡ next = cc in ap (λ (f : Flat). f.latches) (sym same)

-- what a walk places
pub walk_latches : (steps : List (Step Path)) (flat last : Flat) → walked flat steps ≡ Ok last → length last.latches ≡ length flat.latches + latches_in steps
walk_latches [] flat last made = let same : flat ≡ last = cc in omega (arith, ap (λ (f : Flat). length f.latches) same)
walk_latches (Mention path ∷ steps) flat last made =
    let m = after_first flat last (Mention path) steps made in
    omega (arith, walk_latches steps m.0 last m.2, ap length (mention_latches flat m.0 path m.1))
walk_latches (Input path ∷ steps) flat last made =
    let m = after_first flat last (Input path) steps made in
    omega (arith, walk_latches steps m.0 last m.2, same_of (λ f. length f.latches) (record flat { inputs = flat.inputs ++ number flat path ∷ [] }) m.0 m.1)
walk_latches (Output path ∷ steps) flat last made =
    let m = after_first flat last (Output path) steps made in
    omega (arith, walk_latches steps m.0 last m.2, same_of (λ f. length f.latches) (record flat { outputs = flat.outputs ++ number flat path ∷ [] }) m.0 m.1)
walk_latches (Gate inputs out table ∷ steps) flat last made =
    let m = after_first flat last (Gate inputs out table) steps made in
    omega (arith, walk_latches steps m.0 last m.2, ap (λ (f : Flat). length f.latches) (sym (gate_made flat m.0 inputs out table m.1)))
walk_latches (Latch next out start ∷ steps) flat last made =
    let m = after_first flat last (Latch next out start) steps made in
    let more : length m.0.latches ≡ length flat.latches + 1 = ap (λ (f : Flat). length f.latches) (sym (latch_made flat m.0 next out start m.1)) ∙ length-append flat.latches _ in
    omega (arith, walk_latches steps m.0 last m.2, more)
walk_latches (Enter ∷ steps) flat last made =
    let m = after_first flat last Enter steps made in
    omega (arith, walk_latches steps m.0 last m.2, ap (λ (f : Flat). length f.latches) (sym (enter_made flat m.0 m.1)))

-- lines without gates and latches
module _ (design : List ModelValue) (inside : Scope → ℕ → List (Step Path)) (scope : Scope) where
  plain_inputs : (b : Bool) (names : List Token) → latches_in (map (along (path_in scope)) (flat_map (input_steps b) names)) ≡ 0
  plain_inputs b [] = refl
  plain_inputs true (name ∷ names) = plain_inputs true names
  plain_inputs false (name ∷ names) = plain_inputs false names

  plain_outputs : (b : Bool) (names : List Token) → latches_in (map (along (path_in scope)) (flat_map (output_steps b) names)) ≡ 0
  plain_outputs b [] = refl
  plain_outputs true (name ∷ names) = plain_outputs true names
  plain_outputs false (name ∷ names) = plain_outputs false names

  plain_actuals : (connections : List Token) → latches_in (map (along (path_in scope)) (actual_steps connections)) ≡ 0
  plain_actuals [] = refl
  plain_actuals (c ∷ rest) = plain_actuals rest

  abbrev body_at : ℕ → Item → List (Step Path)
  body_at n item = option_map_or (inside (inner scope n (connections_in item))) (model_named design (model_in item)) []

  -- each instance of these lines places no latch
  abbrev pub AllPlain : ℕ → List Item → Type 0
  AllPlain n lines = (k : ℕ) (item : Item) → slice_get (filter is_instance lines) k ≡ Some item → latches_in (body_at (n + k) item) ≡ 0

  pub lines_plain : (lines : List Item) (n : ℕ) → first_found line_in lines ≡ None → AllPlain n lines → latches_in (lines_in inside design scope n lines) ≡ 0
  lines_plain [] n none plain = refl
  lines_plain (items.Inputs names ∷ lines) n none plain =
      omega (arith, latches_append (steps_in scope (items.Inputs names)) (lines_in inside design scope n lines), plain_inputs (is_top scope.trail) names, lines_plain lines n none plain)
  lines_plain (items.Outputs names ∷ lines) n none plain =
      omega (arith, latches_append (steps_in scope (items.Outputs names)) (lines_in inside design scope n lines), plain_outputs (is_top scope.trail) names, lines_plain lines n none plain)
  lines_plain (items.Gate line inputs out table ∷ lines) n none plain = absurd (cc)
  lines_plain (items.Latch line next out start ∷ lines) n none plain = absurd (cc)
  lines_plain (items.Instance line model connections ∷ lines) n none plain =
      let body = body_at n (items.Instance line model connections) in
      let here : n + 0 ≡ n = omega arith in
      let first : latches_in body ≡ 0 = ap (λ m. latches_in (body_at m (items.Instance line model connections))) (sym here) ∙ plain 0 (items.Instance line model connections) refl in
      let later = lines_plain lines (n + 1) none (λ k item got. let next : n + 1 + k ≡ n + suc k = omega arith in ap (λ m. latches_in (body_at m item)) next ∙ plain (suc k) item got) in
      omega (arith, latches_append (steps_in scope (items.Instance line model connections)) (body ++ lines_in inside design scope (n + 1) lines), latches_append body (lines_in inside design scope (n + 1) lines), plain_actuals connections, first, later)

-- a model by itself has no latch
abbrev pub HasNoLatch : List ModelValue → Item → Type 0
HasNoLatch design item = (model : ℕ) → model_named design (model_in item) ≡ Some model → latches_in (walk_of design model) ≡ 0

pub whole_plain : (design : List ModelValue) → AreWithinDepth design (Ok tt) → gate_line design ≡ None → ((k : ℕ) (item : Item) → slice_get (instances_of design) k ≡ Some item → HasNoLatch design item) → latches_in (walk_of design 0) ≡ 0
whole_plain design deep none each =
    ap latches_in (walk_some 63 design top 0)
    ∙ lines_plain design (walk_within 63 design) top (items_of design 0) 1 none plain
  where
    plain : (k : ℕ) (item : Item) → slice_get (instances_of design) k ≡ Some item → latches_in (option_map_or (walk_within 63 design (inner top (1 + k) (connections_in item))) (model_named design (model_in item)) []) ≡ 0
    plain k item got = by (model_named design (model_in item)) refl
      where
        by : (found : Option ℕ) → model_named design (model_in item) ≡ found → latches_in (option_map_or (walk_within 63 design (inner top (1 + k) (connections_in item))) found []) ≡ 0
        by None at = refl
        by (Some m) at =
            ap latches_in (walk_lifted (1 + k) (connections_in item) 63 design top (inner top (1 + k) (connections_in item)) m (start_aligned (1 + k) (connections_in item)) ∙ ap (lifted (1 + k) (connections_in item)) (sym (shallow_instance design k m item deep got at top)))
            ∙ (latches_lifted (1 + k) (connections_in item) (walk_of design m) ∙ each k item got m at)

-- so the whole has none, where no instance has one
pub no_latches : (design : List ModelValue) (whole : Flat) → AreWithinDepth design (Ok tt) → gate_line design ≡ None → walked nothing (walk_of design 0) ≡ Ok whole
    → ((k model : ℕ) (item : Item) → slice_get (instances_of design) k ≡ Some item → model_named design (model_in item) ≡ Some model → (alone : Flat) × (walked nothing (walk_of design model) ≡ Ok alone) × (alone.latches ≡ []))
    → whole.latches ≡ []
no_latches design whole deep none all each =
    nil_from_length whole.latches (omega (arith, walk_latches (walk_of design 0) nothing whole all, whole_plain design deep none (λ k item got model at. let h = each k model item got at in omega (arith, walk_latches (walk_of design model) nothing h.0 h.1, ap length h.2))))
