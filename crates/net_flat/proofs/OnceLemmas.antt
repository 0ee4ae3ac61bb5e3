-- In an instance a walk over lines with each port once is that over all of them.
use Rattle.std.proofs.Common.{◌≡◌, ◌⊎◌, ◌∙◌, inl, inr, ap, sym, refl, subst, ℕ, ◌+◌, ◌-◌, ◌^◌, Bool, true, false, cond, List, [], ◌∷◌, ◌++◌, map, flat_map, length, Option, None, Some, Result, Ok, Err}
use Rattle.std.specs.Prelude.{is_some, nat_le}
use Rattle.std.specs.Option.{option_map_or}
use Rattle.std.specs.Str.{bytes_eq}
use Rattle.std.proofs.lemmas.Slice.Eq.{bytes_eq-Decides}
use Rattle.outcome.specs.Steps.{on_value}
use Rattle.net_core.specs.NetList.{nets, with_gate, with_latch, NetList}
use Rattle.net_core.specs.declared.fault.NetFault.TheVariants as faults
use Rattle.net_blif.specs.Design.{ModelValue, items_of, model_named}
use Rattle.net_blif.specs.Ports.{lines_once, new_ports, ports_once, with_ports}
use Rattle.net_blif.specs.Statement.{Token}
use Rattle.net_blif.specs.Table.{no_numbers, with_number, Numbers}
use Rattle.net_blif.specs.declared.item.Item.{Item}
use Rattle.net_blif.specs.declared.item.Item.TheVariants as items
use Rattle.net_flat.specs.Steps.{input_steps, output_steps, steps_of, Step, Mention, Input, Output, Gate, Latch, Enter}
use Rattle.net_flat.specs.Walk.{next_number}
use Rattle.net_flat.specs.private.Lines.{AreLinesIn}
use Rattle.net_flat.specs.private.LocalWalk.{back_to, entered, found, found_by, is_in_top, local_body, local_gate, local_latch, local_line, local_lines, local_step, local_walked, local_with, local_within, number_in, on_net, state_with, with_new, InTop, Inside, Local, State}
use Rattle.net_flat.specs.declared.flat_fault.FlatFault.{FlatFault}
use Rattle.net_flat.specs.declared.flat_fault.FlatFault.TheVariants.{Net, TooManyInstances}
use Rattle.net_flat.proofs.EnterLemmas.{walk_lines}
use Rattle.net_flat.proofs.StateLemmas.{made_step, mention_cases}

-- ---- what is known in an instance stays known there

abbrev knows : Local → Token → Bool
knows InTop name = false
knows (Inside prefix numbers) name = is_some (numbers name)

-- it is the same instance, and what was known is
record KeepsNames (old new : Local) : Type 0 where
  top : is_in_top new ≡ is_in_top old
  known : (name : Token) → knows old name ≡ true → knows new name ≡ true

same_names : (old new : Local) → old ≡ new → KeepsNames old new
same_names old new same = record { top = sym (ap is_in_top same); known = λ name e. subst (λ (l : Local). knows l name ≡ true) same e }

new_names : (net : NetList) (l : Local) (name : Token) → KeepsNames l (local_with net l name)
new_names net InTop name = same_names InTop InTop refl
new_names net (Inside prefix numbers) name = record { top = refl; known = λ x e. by x (bytes_eq name x) e }
  where
    by : (x : Token) (b : Bool) → is_some (numbers x) ≡ true → is_some (cond b (Some (nets net)) (numbers x)) ≡ true
    by x true e = refl
    by x false e = e

-- a step that leaves the names
stays : (s u t : State) → u.local ≡ s.local → ◌≡◌ {A = Result State FlatFault} (Ok u) (Ok t) → KeepsNames s.local t.local
stays s u t same made = let is : u ≡ t = cc in same_names s.local t.local (sym same ∙ ap (λ (x : State). x.local) is)

step_names : (s t : State) (step : Step Token) → local_step s step ≡ Ok t → KeepsNames s.local t.local
step_names s t (Mention name) made =
    let P : State → Type 0 = λ u. KeepsNames s.local u.local in
    elim (mention_cases s t name made) [
      | inl (k, there, same) ↦ subst P same (same_names s.local s.local refl)
      | inr (new, same) ↦ subst P same (new_names s.net s.local name)
    ]
step_names s t (Input name) made = stays s (on_net s (record s.net { inputs = s.net.inputs ++ number_in s name ∷ [] })) t refl made
step_names s t (Output name) made = stays s (on_net s (record s.net { outputs = s.net.outputs ++ number_in s name ∷ [] })) t refl made
step_names s t (Gate inputs out table) made = by (nat_le (2 ^ 20) (length s.net.gates + length s.net.latches)) made
  where
    by : (b : Bool) → cond b (Err (Net faults.TooManyGates)) (Ok (on_net s (with_gate s.net (local_gate s inputs out table)))) ≡ Ok t → KeepsNames s.local t.local
    by true e = absurd (cc)
    by false e = stays s (on_net s (with_gate s.net (local_gate s inputs out table))) t refl e
step_names s t (Latch next out start) made = by (nat_le (2 ^ 20) (length s.net.gates + length s.net.latches)) made
  where
    by : (b : Bool) → cond b (Err (Net faults.TooManyGates)) (Ok (on_net s (with_latch s.net (local_latch s next out start)))) ≡ Ok t → KeepsNames s.local t.local
    by true e = absurd (cc)
    by false e = stays s (on_net s (with_latch s.net (local_latch s next out start))) t refl e
step_names s t Enter made = by (nat_le (2 ^ 20) s.instances) made
  where
    by : (b : Bool) → cond b (Err TooManyInstances) (Ok (state_with s.net (s.instances + 1) s.local)) ≡ Ok t → KeepsNames s.local t.local
    by true e = absurd (cc)
    by false e = stays s (state_with s.net (s.instances + 1) s.local) t refl e

-- what goes on keeps the names
abbrev Keeps : (State → Result State FlatFault) → Type 0
Keeps goes = (s t : State) → goes s ≡ Ok t → KeepsNames s.local t.local

keeps_after : (a b : State → Result State FlatFault) → Keeps a → Keeps b → Keeps (λ s. on_value b (a s))
keeps_after a b first second s t made = by (a s) refl made
  where
    by : (r : Result State FlatFault) → a s ≡ r → on_value b r ≡ Ok t → KeepsNames s.local t.local
    by (Ok mid) is e =
        let one = first s mid is in
        let two = second mid t e in
        record { top = two.top ∙ one.top; known = λ x e. two.known x (one.known x e) }
    by (Err f) is e = absurd (cc)

keeps_all : Keeps (λ s. Ok s)
keeps_all s t made = stays s s t refl made

walked_names : (steps : List (Step Token)) → Keeps (λ s. local_walked s steps)
walked_names [] = keeps_all
walked_names (step ∷ steps) = keeps_after (λ s. local_step s step) (λ s. local_walked s steps) (λ s t. step_names s t step) (walked_names steps)

-- ---- a name that is known is mentioned in vain

known_found : (s : State) (name : Token) → knows s.local name ≡ true → is_some (found s name) ≡ true
known_found s name known = by s.local known
  where
    by : (l : Local) → knows l name ≡ true → is_some (found_by s.net l name) ≡ true
    by InTop e = absurd (cc)
    by (Inside prefix numbers) e = e

in_vain : (s : State) (name : Token) → knows s.local name ≡ true → local_step s (Mention name) ≡ Ok s
in_vain s name known = ap (λ b. cond b (Ok s) (cond (nat_le (2 ^ 20) (nets s.net)) (Err (Net faults.TooManyNets)) (Ok (with_new s name)))) (known_found s name known)

found_known : (s : State) (name : Token) (k : ℕ) → is_in_top s.local ≡ false → found s name ≡ Some k → knows s.local name ≡ true
found_known s name k inside at = by s.local inside at
  where
    by : (l : Local) → is_in_top l ≡ false → found_by s.net l name ≡ Some k → knows l name ≡ true
    by InTop e f = absurd (cc)
    by (Inside prefix numbers) e f = ap (λ (o : Option ℕ). is_some o) f

new_known : (net : NetList) (l : Local) (name : Token) → is_in_top l ≡ false → knows (local_with net l name) name ≡ true
new_known net InTop name inside = absurd (cc)
new_known net (Inside prefix numbers) name inside =
    let hit : bytes_eq name name ≡ true = (bytes_eq-Decides name name).1 refl in
    ap (λ b. is_some (cond b (Some (nets net)) (numbers name))) hit

-- a name that was mentioned is known
mention_known : (s t : State) (name : Token) → is_in_top s.local ≡ false → local_step s (Mention name) ≡ Ok t → knows t.local name ≡ true
mention_known s t name inside made =
    let P : State → Type 0 = λ u. knows u.local name ≡ true in
    elim (mention_cases s t name made) [
      | inl (k, at, same) ↦ subst P same (found_known s name k inside at)
      | inr (new, same) ↦ subst P same (new_known s.net s.local name inside)
    ]

-- the ports that stood before are known
abbrev AreKnown : Numbers → Local → Type 0
AreKnown stood l = (name : Token) → is_some (stood name) ≡ true → knows l name ≡ true

known_more : (stood : Numbers) (l : Local) (name : Token) → AreKnown stood l → knows l name ≡ true → AreKnown (with_number stood name 0) l
known_more stood l name are known x e = by (bytes_eq name x) refl e
  where
    by : (b : Bool) → bytes_eq name x ≡ b → is_some (cond b (Some 0) (stood x)) ≡ true → knows l x ≡ true
    by true same f = let is : name ≡ x = (bytes_eq-Decides name x).0 same in subst (λ (y : Token). knows l y ≡ true) is known
    by false other f = are x f

known_kept : (stood : Numbers) (old new : Local) → KeepsNames old new → AreKnown stood old → AreKnown stood new
known_kept stood old new keeps are = λ name e. keeps.known name (are name e)

-- ---- lines of ports in an instance

in_mentions : (names : List Token) → flat_map (input_steps false) names ≡ map Mention names
in_mentions [] = refl
in_mentions (name ∷ names) = ap (λ (steps : List (Step Token)). Mention name ∷ steps) (in_mentions names)

out_mentions : (names : List Token) → flat_map (output_steps false) names ≡ map Mention names
out_mentions [] = refl
out_mentions (name ∷ names) = ap (λ (steps : List (Step Token)). Mention name ∷ steps) (out_mentions names)

-- what goes on as it is
abbrev pass : State → Result State FlatFault
pass s = Ok s

passed : (r : Result State FlatFault) → on_value pass r ≡ r
passed (Ok t) = refl
passed (Err f) = refl

module _ (goes : State → ℕ → Result State FlatFault) (design : List ModelValue) where
  inputs_line : (s : State) (n : ℕ) (names : List Token) → is_in_top s.local ≡ false → local_line goes design s n (items.Inputs names) ≡ local_walked s (map Mention names)
  inputs_line s n names inside =
      ap (λ b. on_value pass (local_walked s (flat_map (input_steps b) names))) inside
      ∙ (ap (λ (steps : List (Step Token)). on_value pass (local_walked s steps)) (in_mentions names) ∙ passed (local_walked s (map Mention names)))

  outputs_line : (s : State) (n : ℕ) (names : List Token) → is_in_top s.local ≡ false → local_line goes design s n (items.Outputs names) ≡ local_walked s (map Mention names)
  outputs_line s n names inside =
      ap (λ b. on_value pass (local_walked s (flat_map (output_steps b) names))) inside
      ∙ (ap (λ (steps : List (Step Token)). on_value pass (local_walked s steps)) (out_mentions names) ∙ passed (local_walked s (map Mention names)))

  one_line : (s : State) (n : ℕ) (name : Token) → is_in_top s.local ≡ false → local_line goes design s n (items.Outputs (name ∷ [])) ≡ local_step s (Mention name)
  one_line s n name inside = outputs_line s n (name ∷ []) inside ∙ passed (local_step s (Mention name))

  -- a line, and those behind it
  abbrev then_lines : ℕ → List Item → State → Result State FlatFault
  then_lines n lines s = local_lines goes design s n lines

  -- The lines that are left of one with these names, and then others, are the whole line and then the lines in place of the others.
  abbrev AreSame : List Token → List Item → List Item → ℕ → Type 0
  AreSame names once lines n =
      (stood : Numbers) (s : State) → ((t : State) → is_in_top t.local ≡ false → AreKnown (with_ports stood names) t.local → then_lines n once t ≡ then_lines n lines t) → is_in_top s.local ≡ false → AreKnown stood s.local → then_lines n (new_ports stood names ++ once) s ≡ on_value (then_lines n lines) (local_walked s (map Mention names))

  one_same : (name : Token) (names : List Token) (once lines : List Item) (n : ℕ) → AreSame names once lines n → AreSame (name ∷ names) once lines n
  one_same name names once lines n again stood s later inside are = by (is_some (stood name)) refl later
    where
      both : ((t : State) → is_in_top t.local ≡ false → AreKnown (with_ports (with_number stood name 0) names) t.local → then_lines n once t ≡ then_lines n lines t) → (r : Result State FlatFault) → local_step s (Mention name) ≡ r → on_value (then_lines n (new_ports (with_number stood name 0) names ++ once)) r ≡ on_value (then_lines n lines) (on_value (λ m. local_walked m (map Mention names)) r)
      both later (Ok t) made =
          let keeps = step_names s t (Mention name) made in
          again (with_number stood name 0) t later (keeps.top ∙ inside) (known_more stood t.local name (known_kept stood s.local t.local keeps are) (mention_known s t name inside made))
      both later (Err f) made = refl

      by : (b : Bool) → is_some (stood name) ≡ b → ((t : State) → is_in_top t.local ≡ false → AreKnown (with_ports (cond b stood (with_number stood name 0)) names) t.local → then_lines n once t ≡ then_lines n lines t) → then_lines n (cond b (new_ports stood names) (items.Outputs (name ∷ []) ∷ new_ports (with_number stood name 0) names) ++ once) s ≡ on_value (then_lines n lines) (local_walked s (Mention name ∷ map Mention names))
      by true known later =
          again stood s later inside are
          ∙ ap (on_value (then_lines n lines)) (sym (made_step s s (Mention name) (map Mention names) (in_vain s name (are name known))))
      by false new later =
          ap (on_value (then_lines n (new_ports (with_number stood name 0) names ++ once))) (one_line s n name inside) ∙ both later (local_step s (Mention name)) refl

  names_same : (names : List Token) (once lines : List Item) (n : ℕ) → AreSame names once lines n
  names_same [] once lines n stood s later inside are = later s inside are
  names_same (name ∷ names) once lines n stood s later inside are = one_same name names once lines n (names_same names once lines n) stood s later inside are

  -- ---- other lines

  body_names : (n : ℕ) (item : Item) → Keeps (λ s. local_body goes design s n item)
  body_names n (items.Inputs list) s t made = keeps_all s t made
  body_names n (items.Outputs list) s t made = keeps_all s t made
  body_names n (items.Gate line inputs out table) s t made = keeps_all s t made
  body_names n (items.Latch line next out start) s t made = keeps_all s t made
  body_names n (items.Instance line name connections) s t made = by (model_named design name) made
    where
      back : (r : Result State FlatFault) → on_value (back_to s) r ≡ Ok t → KeepsNames s.local t.local
      back (Ok u) e = stays s (state_with u.net u.instances s.local) t refl e
      back (Err f) e = absurd (cc)

      by : (model : Option ℕ) → option_map_or (λ m. on_value (back_to s) (goes (entered s n connections) m)) model (Ok s) ≡ Ok t → KeepsNames s.local t.local
      by None e = keeps_all s t e
      by (Some m) e = back (goes (entered s n connections) m) e

  line_names : (n : ℕ) (item : Item) → Keeps (λ s. local_line goes design s n item)
  line_names n item s t made = keeps_after (λ s. local_walked s (steps_of (is_in_top s.local) item)) (λ s. local_body goes design s n item) (λ s t. walked_names (steps_of (is_in_top s.local) item) s t) (body_names n item) s t made

  other_same : (item : Item) (once lines : List Item) (s : State) (n : ℕ) → ((t : State) → KeepsNames s.local t.local → then_lines (next_number n item) once t ≡ then_lines (next_number n item) lines t) → then_lines n (item ∷ once) s ≡ then_lines n (item ∷ lines) s
  other_same item once lines s n later = by (local_line goes design s n item) refl
    where
      by : (r : Result State FlatFault) → local_line goes design s n item ≡ r → on_value (then_lines (next_number n item) once) r ≡ on_value (then_lines (next_number n item) lines) r
      by (Ok t) made = later t (line_names n item s t made)
      by (Err f) made = refl

  -- ---- all lines

  lines_same : (lines : List Item) (stood : Numbers) (s : State) (n : ℕ) → is_in_top s.local ≡ false → AreKnown stood s.local → then_lines n (lines_once stood lines) s ≡ then_lines n lines s
  lines_same [] stood s n inside are = refl
  lines_same (items.Inputs names ∷ lines) stood s n inside are =
      names_same names (lines_once (with_ports stood names) lines) lines n stood s (λ t within known. lines_same lines (with_ports stood names) t n within known) inside are
      ∙ ap (on_value (then_lines n lines)) (sym (inputs_line s n names inside))
  lines_same (items.Outputs names ∷ lines) stood s n inside are =
      names_same names (lines_once (with_ports stood names) lines) lines n stood s (λ t within known. lines_same lines (with_ports stood names) t n within known) inside are
      ∙ ap (on_value (then_lines n lines)) (sym (outputs_line s n names inside))
  lines_same (items.Gate line inputs out table ∷ lines) stood s n inside are =
      other_same (items.Gate line inputs out table) (lines_once stood lines) lines s n (λ t keeps. lines_same lines stood t n (keeps.top ∙ inside) (known_kept stood s.local t.local keeps are))
  lines_same (items.Latch line next out start ∷ lines) stood s n inside are =
      other_same (items.Latch line next out start) (lines_once stood lines) lines s n (λ t keeps. lines_same lines stood t n (keeps.top ∙ inside) (known_kept stood s.local t.local keeps are))
  lines_same (items.Instance line model connections ∷ lines) stood s n inside are =
      other_same (items.Instance line model connections) (lines_once stood lines) lines s n (λ t keeps. lines_same lines stood t (n + 1) (keeps.top ∙ inside) (known_kept stood s.local t.local keeps are))

  pub once_same : (lines : List Item) (s : State) (n : ℕ) → is_in_top s.local ≡ false → then_lines n (ports_once lines) s ≡ then_lines n lines s
  once_same lines s n inside = lines_same lines no_numbers s n inside (λ name e. absurd (cc))

-- the walk over a model is that over the lines that it goes through
pub walk_through : (depth : ℕ) (design : List ModelValue) (s : State) (model : ℕ) (lines : List Item) → ¬ (depth ≡ 0) → AreLinesIn s.local (items_of design model) lines → local_within depth design s model ≡ local_lines (local_within (depth - 1) design) design s 1 lines
walk_through depth design s model lines some (inl same) = walk_lines depth design s model lines some same
walk_through depth design s model lines some (inr (inside, once)) =
    walk_lines depth design s model (items_of design model) some refl
    ∙ (sym (once_same (local_within (depth - 1) design) design (items_of design model) s 1 inside) ∙ ap (local_lines (local_within (depth - 1) design) design s 1) (sym once))

-- in an instance a walk goes through the body of the model
pub through_body : (l : Local) (items body : List Item) → is_in_top l ≡ false → (body ≡ items) ⊎ (body ≡ ports_once items) → AreLinesIn l items body
through_body l items body inside (inl same) = inl same
through_body l items body inside (inr once) = inr (inside, once)
