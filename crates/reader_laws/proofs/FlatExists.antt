-- A model of a design whose lines place sound items has a net or a fault.
use Rattle.std.proofs.Common.{◌≡◌, ◌∙◌, sym, refl, subst, ℕ, zero, suc, ◌<◌, ◌≤◌, ◌+◌, ◌^◌, Bool, true, false, cond, List, [], ◌∷◌, ◌++◌, map, flat_map, length, get_or, Option, None, Some, Result, Ok, Err, arith}
use Rattle.std.specs.Prelude.{is_some, nat_le, nat_lt, slice_get, unwrap_or, All}
use Rattle.std.specs.List.{list_all}
use Rattle.std.specs.Option.{option_map_or}
use Rattle.std.specs.Str.{bytes_eq}
use Rattle.std.proofs.lemmas.Bool.{leb-false, ltb-true}
use Rattle.std.proofs.lemmas.List.{length-drop, length-map, map_push}
use Rattle.std.proofs.lemmas.List.Elements.{All-map}
use Rattle.std.proofs.lemmas.Option.{slice_get_within}
use Rattle.lists.specs.laws.BoolLaws.{both_true}
use Rattle.outcome.specs.Outcome.{Returns, Within}
use Rattle.outcome.proofs.SomeLemmas.{some_bind, some_returns, some_within}
use Rattle.net_core.specs.NetList.{nets, LabelValue, NetList}
use Rattle.net_core.specs.Inside.{GateIsInside, IsInside, IsNetName}
use Rattle.net_core.specs.Finish.{Settles}
use Rattle.net_core.specs.declared.latch.Start.{Start}
use Rattle.net_core.specs.declared.fault.NetFault.TheVariants as faults
use Rattle.reader_laws.proofs.InsideLemmas.{empty_inside, with_gate_inside, with_input_inside, with_latch_inside, with_output_inside}
use Rattle.net_core.proofs.NameLemmas.{inside_more, named_found, HasName}
use Rattle.reader_laws.proofs.SettleExists.{some_settles}
use Rattle.net_blif.specs.Connection.{actual_of, formal_of, is_connection}
use Rattle.net_blif.specs.Design.{items_of, model_named, ModelValue}
use Rattle.net_blif.specs.Item.{IsSoundItem}
use Rattle.net_blif.specs.Statement.{IsToken, Token}
use Rattle.net_blif.specs.declared.item.Item.{Item}
use Rattle.net_blif.specs.declared.item.Item.TheVariants as items
use Rattle.net_blif.proofs.StatementLemmas.{all_rest}
use Rattle.net_flat.specs.Paths.{connected, inner, label_of, path_among, path_in, top, At, Path, Scope}
use Rattle.net_flat.specs.Steps.{actual_steps, along, input_steps, output_steps, steps_of, Step, Mention, Input, Output, Gate, Latch, Enter}
use Rattle.net_flat.specs.Walk.{body_in, is_top, lines_in, next_number, steps_in, walk_of, walk_within}
use Rattle.net_flat.specs.Flat.{after_step, gate_on, latch_on, net_list, nothing, number, walked, Flat, Flattens}
use Rattle.net_flat.specs.declared.flat_fault.FlatFault.{FlatFault}
use Rattle.net_flat.specs.declared.flat_fault.FlatFault.TheVariants.{Net}
use Rattle.net_flat.proofs.GrownLemmas.{after_first, enter_made, mentioned_step, place_path, with_net}
use Rattle.net_flat.proofs.LiftLemmas.{walk_nothing, walk_some}
use Rattle.net_flat.proofs.PathLemmas.{place_named}
use Rattle.net_flat.proofs.TiedLemmas.{place}
use Rattle.reader_laws.specs.SoundModels.{AreSoundItems, AreSoundModels}

-- ---- steps that place sound gates on nets whose names are names

-- a net of the chosen model is found by its name
abbrev IsSoundPath : Path → Type 0
IsSoundPath (At [] name) = IsNetName name
IsSoundPath (At (k ∷ ks) name) = Unit {0}

-- tables fit, and what uses nets comes after a mention, which there was or which comes first
abbrev AreSoundSteps : Bool → List (Step Path) → Type 0
AreSoundSteps some [] = Unit {0}
AreSoundSteps some (Mention path ∷ steps) = IsSoundPath path × AreSoundSteps true steps
AreSoundSteps some (Input path ∷ steps) = (some ≡ true) × AreSoundSteps some steps
AreSoundSteps some (Output path ∷ steps) = (some ≡ true) × AreSoundSteps some steps
AreSoundSteps some (Gate inputs out table ∷ steps) = (some ≡ true) × (length inputs ≤ 6) × (table < 2 ^ (2 ^ length inputs)) × AreSoundSteps some steps
AreSoundSteps some (Latch next out start ∷ steps) = (some ≡ true) × AreSoundSteps some steps
AreSoundSteps some (Enter ∷ steps) = AreSoundSteps some steps

sound_after : (some : Bool) (steps : List (Step Path)) → AreSoundSteps false steps → AreSoundSteps some steps
sound_after some [] sound = tt
sound_after some (Mention path ∷ steps) sound = sound
sound_after some (Input path ∷ steps) sound = let not = sound.0 in absurd (cc)
sound_after some (Output path ∷ steps) sound = let not = sound.0 in absurd (cc)
sound_after some (Gate inputs out table ∷ steps) sound = let not = sound.0 in absurd (cc)
sound_after some (Latch next out start ∷ steps) sound = let not = sound.0 in absurd (cc)
sound_after some (Enter ∷ steps) sound = sound_after some steps sound

sound_append : (some : Bool) (xs ys : List (Step Path)) → AreSoundSteps some xs → AreSoundSteps false ys → AreSoundSteps some (xs ++ ys)
sound_append some [] ys first second = sound_after some ys second
sound_append some (Mention path ∷ xs) ys first second = (first.0, sound_append true xs ys first.1 second)
sound_append some (Input path ∷ xs) ys first second = (first.0, sound_append some xs ys first.1 second)
sound_append some (Output path ∷ xs) ys first second = (first.0, sound_append some xs ys first.1 second)
sound_append some (Gate inputs out table ∷ xs) ys first second = (first.0, first.1, first.2, sound_append some xs ys first.3 second)
sound_append some (Latch next out start ∷ xs) ys first second = (first.0, sound_append some xs ys first.1 second)
sound_append some (Enter ∷ xs) ys first second = sound_append some xs ys first second

-- ---- what lines do

first_token : (name : Token) (names : List Token) → All IsToken (name ∷ names) → IsToken name
first_token name names all = all zero name (omega arith)

token_name : (token : Token) → IsToken token → IsNetName token
token_name token is = (is.0, is.1)

-- what stands behind the `=` of a connection is a name
actual_name : (connection : Token) → IsToken connection → is_connection connection ≡ true → IsNetName (actual_of connection)
actual_name connection token is =
    let sides = both_true (nat_lt 0 (length (formal_of connection))) (nat_lt 0 (length (actual_of connection))) is in
    let some : 0 < length (actual_of connection) = ltb-true 0 (length (actual_of connection)) sides.1 in
    let long : length (actual_of connection) ≤ length connection = omega (arith, length-drop (length (formal_of connection) + 1) connection) in
    (omega (arith, some), omega (arith, long, token.1))

-- names of a scope are those of sound nets
abbrev IsSoundScope : Scope → Type 0
IsSoundScope scope = (name : Token) → IsNetName name → IsSoundPath (path_in scope name)

module _ (scope : Scope) (sound : IsSoundScope scope) where
  sound_token : (name : Token) → IsToken name → IsSoundPath (path_in scope name)
  sound_token name is = sound name (token_name name is)

  inputs_sound : (some b : Bool) (names : List Token) → All IsToken names → AreSoundSteps some (map (along (path_in scope)) (flat_map (input_steps b) names))
  inputs_sound some b [] all = tt
  inputs_sound some true (name ∷ names) all = (sound_token name (first_token name names all), (refl, inputs_sound true true names (all_rest name names all)))
  inputs_sound some false (name ∷ names) all = (sound_token name (first_token name names all), inputs_sound true false names (all_rest name names all))

  outputs_sound : (some b : Bool) (names : List Token) → All IsToken names → AreSoundSteps some (map (along (path_in scope)) (flat_map (output_steps b) names))
  outputs_sound some b [] all = tt
  outputs_sound some true (name ∷ names) all = (sound_token name (first_token name names all), (refl, outputs_sound true true names (all_rest name names all)))
  outputs_sound some false (name ∷ names) all = (sound_token name (first_token name names all), outputs_sound true false names (all_rest name names all))

  gate_sound : (some : Bool) (names inputs : List Token) (out : Token) (table : ℕ) → All IsToken names → IsToken out → length inputs ≤ 6 → table < 2 ^ (2 ^ length inputs) → AreSoundSteps some (map (along (path_in scope)) (map Mention names ++ Mention out ∷ Gate inputs out table ∷ []))
  gate_sound some [] inputs out table all is few fits =
      let long : length (map (path_in scope) inputs) ≡ length inputs = length-map inputs (path_in scope) in
      (sound_token out is, (refl, rw long few, rw long fits, tt))
  gate_sound some (name ∷ names) inputs out table all is few fits =
      (sound_token name (first_token name names all), gate_sound true names inputs out table (all_rest name names all) is few fits)

  actuals_sound : (some : Bool) (connections : List Token) → All IsToken connections → list_all is_connection connections ≡ true → AreSoundSteps some (map (along (path_in scope)) (actual_steps connections))
  actuals_sound some [] all are = tt
  actuals_sound some (c ∷ cs) all are =
      let both = both_true (is_connection c) (list_all is_connection cs) are in
      (sound (actual_of c) (actual_name c (first_token c cs all) both.0), actuals_sound true cs (all_rest c cs all) both.1)

  line_sound : (b : Bool) (item : Item) → IsSoundItem item → AreSoundSteps false (map (along (path_in scope)) (steps_of b item))
  line_sound b (items.Inputs names) is = inputs_sound false b names is
  line_sound b (items.Outputs names) is = outputs_sound false b names is
  line_sound b (items.Gate line inputs out table) is = gate_sound false inputs inputs out table is.0 is.1 is.2 is.3
  line_sound b (items.Latch line next out start) is = (sound_token next is.0, (sound_token out is.1, (refl, tt)))
  line_sound b (items.Instance line model connections) is = actuals_sound false connections is.1 is.2

  own_sound : (trail : List ℕ) (n : ℕ) (name : Token) → IsSoundPath (At (trail ++ n ∷ []) name)
  own_sound [] n name = tt
  own_sound (k ∷ ks) n name = tt

  among_sound : (connections : List Token) (own : Path) (name : Token) → All IsToken connections → list_all is_connection connections ≡ true → IsSoundPath own → IsSoundPath (path_among (map (connected scope) connections) own name)
  among_sound [] own name all are is = is
  among_sound (c ∷ cs) own name all are is =
      let both = both_true (is_connection c) (list_all is_connection cs) are in
      by (sound (actual_of c) (actual_name c (first_token c cs all) both.0)) (among_sound cs own name (all_rest c cs all) both.1 is) (bytes_eq (formal_of c) name)
    where
      by : IsSoundPath (path_in scope (actual_of c)) → IsSoundPath (path_among (map (connected scope) cs) own name) → (b : Bool) → IsSoundPath (cond b (path_in scope (actual_of c)) (path_among (map (connected scope) cs) own name))
      by here rest true = here
      by here rest false = rest

  inner_sound : (n : ℕ) (connections : List Token) → All IsToken connections → list_all is_connection connections ≡ true → IsSoundScope (inner scope n connections)
  inner_sound n connections all are name is = among_sound connections (At (scope.trail ++ n ∷ []) name) name all are (own_sound scope.trail n name)

-- ---- a walk of sound items

module _ (design : List ModelValue) (inside : Scope → ℕ → List (Step Path)) (bodies : (scope : Scope) (model : ℕ) → IsSoundScope scope → AreSoundSteps false (inside scope model)) where
  body_sound : (scope : Scope) → IsSoundScope scope → (n : ℕ) (item : Item) → IsSoundItem item → AreSoundSteps false (body_in inside design scope n item)
  body_sound scope sound n (items.Inputs names) is = tt
  body_sound scope sound n (items.Outputs names) is = tt
  body_sound scope sound n (items.Gate line inputs out table) is = tt
  body_sound scope sound n (items.Latch line next out start) is = tt
  body_sound scope sound n (items.Instance line model connections) is = by (model_named design model)
    where
      by : (found : Option ℕ) → AreSoundSteps false (option_map_or (inside (inner scope n connections)) found [])
      by None = tt
      by (Some m) = bodies (inner scope n connections) m (inner_sound scope sound n connections is.1 is.2)

  lines_sound : (lines : List Item) (scope : Scope) → IsSoundScope scope → (n : ℕ) → AreSoundItems lines → AreSoundSteps false (lines_in inside design scope n lines)
  lines_sound [] scope sound n each = tt
  lines_sound (item ∷ lines) scope sound n each =
      let rest = lines_in inside design scope (next_number n item) lines in
      sound_append false (steps_in scope item) (body_in inside design scope n item ++ rest) (line_sound scope sound (is_top scope.trail) item (each item (zero, refl)))
      (sound_append false (body_in inside design scope n item) rest (body_sound scope sound n item (each item (zero, refl)))
      (lines_sound lines scope sound (next_number n item) (λ other has. each other (suc has.0, has.1))))

lines_of_model : (design : List ModelValue) (model : ℕ) → AreSoundModels design → AreSoundItems (items_of design model)
lines_of_model design model each = by (slice_get design model) refl
  where
    by : (found : Option ModelValue) → slice_get design model ≡ found → AreSoundItems (option_map_or (λ (m : ModelValue). m.items) found [])
    by None at item has = let got = has.1 in absurd (cc)
    by (Some m) at item has = each m (model, at) item has

walk_sound : (depth : ℕ) (design : List ModelValue) → AreSoundModels design → (scope : Scope) (model : ℕ) → IsSoundScope scope → AreSoundSteps false (walk_within depth design scope model)
walk_sound zero design each scope model sound = let P : List (Step Path) → Type 0 = AreSoundSteps false in subst P (sym (walk_nothing design scope model)) tt
walk_sound (suc depth) design each scope model sound =
    let P : List (Step Path) → Type 0 = AreSoundSteps false in
    subst P (sym (walk_some depth design scope model)) (lines_sound design (walk_within depth design) (walk_sound depth design each) (items_of design model) scope sound 1 (lines_of_model design model each))

-- ---- sound steps keep the net list on existing nets

one_at_least : (flat : Flat) (path : Path) (k : ℕ) → place flat path ≡ Some k → 1 ≤ length flat.paths
one_at_least flat path k at =
    let found = place_path 0 flat.paths path k at in
    omega (arith, slice_get_within flat.paths found.0 path found.2)

number_fits : (flat : Flat) (path : Path) → 1 ≤ length flat.paths → number flat path < nets (net_list flat)
number_fits flat path some = rw (length-map flat.paths label_of) (by (place flat path) refl)
  where
    by : (found : Option ℕ) → place flat path ≡ found → unwrap_or found 0 < length flat.paths
    by None at = omega (arith, some)
    by (Some k) at =
        let there = place_path 0 flat.paths path k at in
        omega (arith, there.1, slice_get_within flat.paths there.0 path there.2)

-- the net list stands on existing nets, of which there are some where there have to be
abbrev IsFit : Bool → Flat → Type 0
IsFit some flat = IsInside (net_list flat) × (some ≡ true → 1 ≤ length flat.paths)

module _ (flat next : Flat) where
  became : (some : Bool) (made : Flat) → IsFit some made → ◌≡◌ {A = Result Flat FlatFault} (Ok made) (Ok next) → IsFit some next
  became some made is e = let same : made ≡ next = cc in let P : Flat → Type 0 = IsFit some in subst P same is

  label_name : (path : Path) → IsSoundPath path → place flat path ≡ None → HasName (map label_of flat.paths ++ label_of path ∷ []) (nets (net_list flat)) (label_of path)
  label_name (At [] name) sound none = λ named. (sound, named_found (map label_of flat.paths) (map label_of flat.paths ++ label_of (At [] name) ∷ []) name (nets (net_list flat)) refl refl (place_named 0 flat.paths name ∙ none))
  label_name (At (k ∷ ks) name) sound none = λ named. absurd (cc)

  longer_inside : (path : Path) → IsSoundPath path → IsInside (net_list flat) → place flat path ≡ None → length flat.paths < 2 ^ 20 → IsInside (net_list (with_net flat path))
  longer_inside path sound inside none room =
      let P : List LabelValue → Type 0 = λ labels. IsInside (record (net_list flat) { labels = labels }) in
      subst P (sym (map_push label_of flat.paths path)) (inside_more (net_list flat) (label_of path) (rw (length-map flat.paths label_of) room) (label_name path sound none) inside)

  mention_inside : (path : Path) → IsSoundPath path → IsInside (net_list flat) → after_step flat (Mention path) ≡ Ok next → IsFit true next
  mention_inside path sound inside made =
      let there = mentioned_step flat next path made in
      (by (place flat path) refl (nat_le (2 ^ 20) (length flat.paths)) refl made, λ e. one_at_least next path there.0 there.1)
    where
      kept : (made : Flat) → IsInside (net_list made) → ◌≡◌ {A = Result Flat FlatFault} (Ok made) (Ok next) → IsInside (net_list next)
      kept made is e = let same : made ≡ next = cc in let P : Flat → Type 0 = λ f. IsInside (net_list f) in subst P same is

      by : (o : Option ℕ) → place flat path ≡ o → (c : Bool) → nat_le (2 ^ 20) (length flat.paths) ≡ c → cond (is_some o) (Ok flat) (cond c (Err (Net faults.TooManyNets)) (Ok (with_net flat path))) ≡ Ok next → IsInside (net_list next)
      by (Some k) at c full e = kept flat inside e
      by None at true full e = absurd (cc)
      by None at false full e = kept (with_net flat path) (longer_inside path sound inside at (leb-false (2 ^ 20) (length flat.paths) full)) e

  module _ (is : IsFit true flat) where
    some_path : 1 ≤ length flat.paths
    some_path = is.1 refl

    input_fit : (path : Path) → after_step flat (Input path) ≡ Ok next → IsFit true next
    input_fit path made = became true (record flat { inputs = flat.inputs ++ number flat path ∷ [] }) (with_input_inside (net_list flat) is.0 (number flat path) (number_fits flat path some_path), is.1) made

    output_fit : (path : Path) → after_step flat (Output path) ≡ Ok next → IsFit true next
    output_fit path made = became true (record flat { outputs = flat.outputs ++ number flat path ∷ [] }) (with_output_inside (net_list flat) is.0 (number flat path) (number_fits flat path some_path), is.1) made

    gate_inside : (inputs : List Path) (out : Path) (table : ℕ) → length inputs ≤ 6 → table < 2 ^ (2 ^ length inputs) → GateIsInside (nets (net_list flat)) (gate_on flat inputs out table)
    gate_inside inputs out table few fits =
        let long : length (map (number flat) inputs) ≡ length inputs = length-map inputs (number flat) in (
          number_fits flat out some_path,
          All-map (λ n. n < nets (net_list flat)) (number flat) inputs (λ k d less. number_fits flat (get_or inputs k d) some_path),
          rw long few,
          rw long fits,
        )

    gate_fit : (inputs : List Path) (out : Path) (table : ℕ) → length inputs ≤ 6 → table < 2 ^ (2 ^ length inputs) → after_step flat (Gate inputs out table) ≡ Ok next → IsFit true next
    gate_fit inputs out table few fits made = by (nat_le (2 ^ 20) (length flat.gates + length flat.latches)) refl made
      where
        by : (c : Bool) → nat_le (2 ^ 20) (length flat.gates + length flat.latches) ≡ c → cond c (Err (Net faults.TooManyGates)) (Ok (record flat { gates = flat.gates ++ gate_on flat inputs out table ∷ [] })) ≡ Ok next → IsFit true next
        by true full e = absurd (cc)
        by false full e =
            became true (record flat { gates = flat.gates ++ gate_on flat inputs out table ∷ [] })
            (with_gate_inside (net_list flat) is.0 (gate_on flat inputs out table) (leb-false (2 ^ 20) (length flat.gates + length flat.latches) full) (gate_inside inputs out table few fits), is.1)
            e

    latch_fit : (first out : Path) (start : Start) → after_step flat (Latch first out start) ≡ Ok next → IsFit true next
    latch_fit first out start made = by (nat_le (2 ^ 20) (length flat.gates + length flat.latches)) refl made
      where
        by : (c : Bool) → nat_le (2 ^ 20) (length flat.gates + length flat.latches) ≡ c → cond c (Err (Net faults.TooManyGates)) (Ok (record flat { latches = flat.latches ++ latch_on flat first out start ∷ [] })) ≡ Ok next → IsFit true next
        by true full e = absurd (cc)
        by false full e =
            became true (record flat { latches = flat.latches ++ latch_on flat first out start ∷ [] })
            (with_latch_inside (net_list flat) is.0 (latch_on flat first out start) (leb-false (2 ^ 20) (length flat.gates + length flat.latches) full) (number_fits flat first some_path, number_fits flat out some_path), is.1)
            e

steps_inside : (steps : List (Step Path)) (some : Bool) (flat last : Flat) → AreSoundSteps some steps → IsFit some flat → walked flat steps ≡ Ok last → IsInside (net_list last)
steps_inside [] some flat last sound is made = let same : flat ≡ last = cc in let P : Flat → Type 0 = λ f. IsInside (net_list f) in subst P same is.0
steps_inside (Mention path ∷ steps) some flat last sound is made =
    let m = after_first flat last (Mention path) steps made in
    steps_inside steps true m.0 last sound.1 (mention_inside flat m.0 path sound.0 is.0 m.1) m.2
steps_inside (Input path ∷ steps) true flat last sound is made =
    let m = after_first flat last (Input path) steps made in
    steps_inside steps true m.0 last sound.1 (input_fit flat m.0 is path m.1) m.2
steps_inside (Output path ∷ steps) true flat last sound is made =
    let m = after_first flat last (Output path) steps made in
    steps_inside steps true m.0 last sound.1 (output_fit flat m.0 is path m.1) m.2
steps_inside (Gate inputs out table ∷ steps) true flat last sound is made =
    let m = after_first flat last (Gate inputs out table) steps made in
    steps_inside steps true m.0 last sound.3 (gate_fit flat m.0 is inputs out table sound.1 sound.2 m.1) m.2
steps_inside (Latch next out start ∷ steps) true flat last sound is made =
    let m = after_first flat last (Latch next out start) steps made in
    steps_inside steps true m.0 last sound.1 (latch_fit flat m.0 is next out start m.1) m.2
steps_inside (Enter ∷ steps) some flat last sound is made =
    let m = after_first flat last Enter steps made in
    let P : Flat → Type 0 = IsFit some in
    steps_inside steps some m.0 last sound (subst P (enter_made flat m.0 m.1) is) m.2
steps_inside (Input path ∷ steps) false flat last sound is made = let not = sound.0 in absurd (cc)
steps_inside (Output path ∷ steps) false flat last sound is made = let not = sound.0 in absurd (cc)
steps_inside (Gate inputs out table ∷ steps) false flat last sound is made = let not = sound.0 in absurd (cc)
steps_inside (Latch next out start ∷ steps) false flat last sound is made = let not = sound.0 in absurd (cc)

-- the net list of a walk stands on existing nets
pub walk_inside : (design : List ModelValue) (model : ℕ) (flat : Flat) → AreSoundModels design → walked nothing (walk_of design model) ≡ Ok flat → IsInside (net_list flat)
walk_inside design model flat each made = steps_inside (walk_of design model) false nothing flat (walk_sound 64 design each top model (λ name is. is)) (empty_inside, λ not. absurd (cc)) made

-- ---- what comes of a model

pub some_flat : (design : List ModelValue) (model : ℕ) → AreSoundModels design → (outcome : Result NetList FlatFault) × Flattens design model outcome
some_flat design model each =
    let walk = walked nothing (walk_of design model) in
    some_bind (Returns walk) (λ flat. Within Net (Settles (net_list flat))) (some_returns walk)
    (λ flat made. some_within Net (Settles (net_list flat)) (some_settles (net_list flat) (walk_inside design model flat each (sym made))))
