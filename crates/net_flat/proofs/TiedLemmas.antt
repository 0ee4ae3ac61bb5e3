-- What the walk over paths has met, and what tables know of it.
use Rattle.std.proofs.Common.{◌≡◌, ◌⊎◌, ◌∙◌, inl, inr, ap, sym, refl, subst, append_assoc, append-nil, ℕ, ◌+◌, ◌≤◌, ◌^◌, Bool, true, false, cond, List, [], ◌∷◌, ◌++◌, map, length, Option, None, Some, Result, Ok, Err, arith}
use Rattle.std.specs.Prelude.{is_some, unwrap_or, nat_le}
use Rattle.std.specs.Str.{bytes_eq}
use Rattle.std.proofs.lemmas.List.{length-map, map_push}
use Rattle.std.proofs.lemmas.Slice.Eq.{bytes_eq-Decides}
use Rattle.outcome.specs.Steps.{on_value}
use Rattle.net_core.specs.NetList.{NetList, nets, number_from, with_gate, with_latch}
use Rattle.net_core.specs.declared.fault.NetFault.TheVariants as faults
use Rattle.net_blif.specs.Statement.{Token}
use Rattle.net_blif.specs.Table.{Numbers}
use Rattle.net_flat.specs.Paths.{label_of, path_in, prefix_of, same_path, At, Path, Scope}
use Rattle.net_flat.specs.Steps.{along, Step, Mention, Input, Output, Gate, Latch, Enter}
use Rattle.net_flat.specs.Walk.{is_top}
use Rattle.net_flat.specs.Flat.{after_step, gate_on, latch_on, net_list, number, place_from, walked, Flat}
use Rattle.net_flat.specs.private.LocalWalk.{found_by, is_in_top, local_gate, local_latch, local_step, local_walked, local_with, net_with, number_in, on_net, prefix_in, state_with, with_new, InTop, Inside, Local, State}
use Rattle.net_flat.specs.declared.flat_fault.FlatFault.{FlatFault}
use Rattle.net_flat.specs.declared.flat_fault.FlatFault.TheVariants.{Net, TooManyInstances}
use Rattle.net_flat.proofs.PathLemmas.{each_append, name_same, no_longer, path_same, place_append, place_kept, place_named, or_place, trail_of, Each}

-- the state with these names
abbrev pub tie : Flat → Local → State
tie flat local = state_with (net_list flat) flat.instances local

-- the place of a path
abbrev pub place : Flat → Path → Option ℕ
place flat path = place_from 0 flat.paths path

-- the path is in no instance from the n-th on
abbrev pub IsFresh : List ℕ → ℕ → Path → Type 0
IsFresh trail n path = (k : ℕ) (rest : List ℕ) → n ≤ k → trail_of path ≡ trail ++ k ∷ rest → ⊥

-- the path is in the instance, or in one inside
abbrev pub IsUnder : List ℕ → Path → Type 0
IsUnder trail path = (rest : List ℕ) × (trail_of path ≡ trail ++ rest)

-- the paths that are new are in the instance
abbrev pub Grows : List ℕ → Flat → Flat → Type 0
Grows trail old new = (more : List Path) × (new.paths ≡ old.paths ++ more) × Each (IsUnder trail) more

abbrev pub IsMentioned : Flat → Path → Type 0
IsMentioned flat path = (k : ℕ) × (place flat path ≡ Some k)

-- Tables know the places of names. A name that is no net of the instance is an actual, which was mentioned.
pub record Tied (flat : Flat) (local : Local) (scope : Scope) (n : ℕ) : Type 0 where
  pub known : (name : Token) → found_by (net_list flat) local name ≡ place flat (path_in scope name)
  pub prefix : prefix_in local ≡ prefix_of scope.trail
  pub in_top : is_in_top local ≡ is_top scope.trail
  pub top_owns : is_top scope.trail ≡ true → (name : Token) → path_in scope name ≡ At scope.trail name
  pub owned : (name : Token) → (path_in scope name ≡ At scope.trail name) ⊎ IsMentioned flat (path_in scope name)
  pub fresh : Each (IsFresh scope.trail n) flat.paths

-- both walks end in the same way
abbrev pub Agree : (Flat → Type 0) → Flat → Scope → ℕ → Result Flat FlatFault → Result State FlatFault → Type 0
Agree Q flat scope n (Ok new) (Ok state) = (local : Local) × (tie new local ≡ state) × Tied new local scope n × Grows scope.trail flat new × Q new
Agree Q flat scope n (Err e) (Err f) = e ≡ f
Agree Q flat scope n (Ok new) (Err f) = ⊥
Agree Q flat scope n (Err e) (Ok state) = ⊥

abbrev pub Anything : Flat → Type 0
Anything flat = Unit {0}

pub grows_none : (trail : List ℕ) (flat new : Flat) → new.paths ≡ flat.paths → Grows trail flat new
grows_none trail flat new same = ([], same ∙ sym (append-nil flat.paths), tt)

pub grows_more : (trail : List ℕ) (a b c : Flat) → Grows trail a b → Grows trail b c → Grows trail a c
grows_more trail a b c (xs, first, under) (ys, second, below) = (xs ++ ys, second ∙ (ap (λ (ps : List Path). ps ++ ys) first ∙ append_assoc a.paths xs ys), each_append (IsUnder trail) xs ys under below)

pub kept_mentioned : (trail : List ℕ) (a b : Flat) (path : Path) → Grows trail a b → IsMentioned a path → IsMentioned b path
kept_mentioned trail a b path (xs, same, under) (k, at) = (k, ap (λ (ps : List Path). place_from 0 ps path) same ∙ place_kept 0 a.paths xs path k at)

module _ (Q R : Flat → Type 0) (flat mid : Flat) (scope : Scope) (n : ℕ) (grown : Grows scope.trail flat mid) (to : (new : Flat) → Grows scope.trail mid new → Q new → R new) where
  pub agree_later : (a : Result Flat FlatFault) (b : Result State FlatFault) → Agree Q mid scope n a b → Agree R flat scope n a b
  agree_later (Ok new) (Ok state) (local, same, tied, grows, q) = (local, same, tied, grows_more scope.trail flat mid new grown grows, to new grows q)
  agree_later (Err e) (Err f) same = same
  agree_later (Ok new) (Err f) h = absurd h
  agree_later (Err e) (Ok state) h = absurd h

-- one walk after another
module _ (Q R : Flat → Type 0) (flat : Flat) (scope : Scope) (n m : ℕ) (further : Flat → Result Flat FlatFault) (goes : State → Result State FlatFault) where
  pub agree_after : (a : Result Flat FlatFault) (b : Result State FlatFault) → Agree Q flat scope n a b → ((mid : Flat) (local : Local) → Tied mid local scope n → Grows scope.trail flat mid → Q mid → Agree R mid scope m (further mid) (goes (tie mid local))) → Agree R flat scope m (on_value further a) (on_value goes b)
  agree_after (Ok mid) (Ok state) (local, same, tied, grows, q) rest =
      let P : State → Type 0 = λ s. Agree R flat scope m (further mid) (goes s) in
      subst P same (agree_later R R flat mid scope m grows (λ new later r. r) (further mid) (goes (tie mid local)) (rest mid local tied grows q))
  agree_after (Err e) (Err f) same rest = same
  agree_after (Ok mid) (Err f) h rest = absurd h
  agree_after (Err e) (Ok state) h rest = absurd h

-- what the new net is called
label_same : (net : NetList) (trail : List ℕ) (local : Local) (name : Token) → is_in_top local ≡ is_top trail → prefix_in local ≡ prefix_of trail → record net { labels = net.labels ++ label_of (At trail name) ∷ [] } ≡ net_with net local name
label_same net [] InTop name top prefix = refl
label_same net [] (Inside text numbers) name top prefix = absurd (cc)
label_same net (k ∷ ks) InTop name top prefix = absurd (cc)
label_same net (k ∷ ks) (Inside text numbers) name top prefix = ap (λ (p : List ℕ). record net { labels = net.labels ++ record { text = p ++ name; named = false } ∷ [] }) (sym prefix)

kept_top : (net : NetList) (local : Local) (name : Token) → is_in_top (local_with net local name) ≡ is_in_top local
kept_top net InTop name = refl
kept_top net (Inside text numbers) name = refl

kept_prefix : (net : NetList) (local : Local) (name : Token) → prefix_in (local_with net local name) ≡ prefix_in local
kept_prefix net InTop name = refl
kept_prefix net (Inside text numbers) name = refl

-- a mention of a new net
module _ (flat : Flat) (local : Local) (scope : Scope) (n : ℕ) (tied : Tied flat local scope n) (name : Token) (new : place flat (path_in scope name) ≡ None) where
  own : path_in scope name ≡ At scope.trail name
  own = elim (tied.owned name) [ inl is ↦ is | inr (k, at) ↦ absurd (cc) ]

  abbrev pub longer : Flat
  longer = record flat { paths = flat.paths ++ path_in scope name ∷ [] }

  -- the place of a name after the mention
  place_then : (q : Token) → place longer (path_in scope q) ≡ or_place (place flat (path_in scope q)) (cond (same_path (path_in scope q) (path_in scope name)) (Some (length flat.paths)) None)
  place_then q = let none : 0 + length flat.paths ≡ length flat.paths = omega arith in place_append 0 flat.paths (path_in scope name ∷ []) (path_in scope q) ∙ ap (λ k. or_place (place flat (path_in scope q)) (place_from k (path_in scope name ∷ []) (path_in scope q))) none

  known_inside : (numbers : Numbers) → ((q : Token) → numbers q ≡ place flat (path_in scope q)) → (q : Token) → cond (bytes_eq name q) (Some (length flat.paths)) (numbers q) ≡ place longer (path_in scope q)
  known_inside numbers is q = by (bytes_eq name q) (place flat (path_in scope q)) refl refl
    where
      by : (b : Bool) (o : Option ℕ) → bytes_eq name q ≡ b → place flat (path_in scope q) ≡ o → cond b (Some (length flat.paths)) (numbers q) ≡ place longer (path_in scope q)
      by true (Some k) e at = let same : name ≡ q = (bytes_eq-Decides name q).0 e in let none : place flat (path_in scope q) ≡ None = subst (λ (x : Token). place flat (path_in scope x) ≡ None) same new in absurd (cc)
      by false (Some k) e at = is q ∙ (at ∙ sym (place_then q ∙ ap (λ o. or_place o (cond (same_path (path_in scope q) (path_in scope name)) (Some (length flat.paths)) None)) at))
      by true None e at =
          let same : name ≡ q = (bytes_eq-Decides name q).0 e in
          let hit : same_path (path_in scope q) (path_in scope name) ≡ true = rw (← same, own) (path_same scope.trail name name ∙ (bytes_eq-Decides name name).1 refl) in
          sym (place_then q ∙ (ap (λ o. or_place o (cond (same_path (path_in scope q) (path_in scope name)) (Some (length flat.paths)) None)) at ∙ ap (λ b. cond b (Some (length flat.paths)) None) hit))
      by false None e at =
          let mine : path_in scope q ≡ At scope.trail q = elim (tied.owned q) [ inl h ↦ h | inr (k, there) ↦ absurd (cc) ] in
          let miss : same_path (path_in scope q) (path_in scope name) ≡ false = rw (mine, own) (path_same scope.trail q name ∙ (name_same q name ∙ e)) in
          is q ∙ (at ∙ sym (place_then q ∙ (ap (λ o. or_place o (cond (same_path (path_in scope q) (path_in scope name)) (Some (length flat.paths)) None)) at ∙ ap (λ b. cond b (Some (length flat.paths)) None) miss)))

  net_longer : net_list longer ≡ net_with (net_list flat) local name
  net_longer = ap (λ ls. record (net_list flat) { labels = ls }) (map_push label_of flat.paths (path_in scope name) ∙ ap (λ p. map label_of flat.paths ++ label_of p ∷ []) own) ∙ label_same (net_list flat) scope.trail local name tied.in_top tied.prefix

  known_then : (q : Token) → found_by (net_list longer) (local_with (net_list flat) local name) q ≡ place longer (path_in scope q)
  known_then q = by local refl
    where
      by : (l : Local) → local ≡ l → found_by (net_list longer) (local_with (net_list flat) l name) q ≡ place longer (path_in scope q)
      by InTop is =
          let top : is_top scope.trail ≡ true = sym tied.in_top ∙ ap is_in_top is in
          let empty : scope.trail ≡ [] = no_trail scope.trail top in
          place_named 0 longer.paths q ∙ ap (place longer) (sym (tied.top_owns top q ∙ ap (λ (t : List ℕ). At t q) empty))
        where
          no_trail : (t : List ℕ) → is_top t ≡ true → t ≡ []
          no_trail [] e = refl
          no_trail (k ∷ ks) e = absurd (cc)
      by (Inside text numbers) is =
          let size : nets (net_list flat) ≡ length flat.paths = length-map flat.paths label_of in
          rw size (known_inside numbers (λ x. sym (ap (λ (l : Local). found_by (net_list flat) l x) is) ∙ tied.known x) q)

  mentioned_then : (q : Token) → IsMentioned flat (path_in scope q) → IsMentioned longer (path_in scope q)
  mentioned_then q (k, at) = (k, place_kept 0 flat.paths (path_in scope name ∷ []) (path_in scope q) k at)

  here_then : IsMentioned longer (path_in scope name)
  here_then =
      let hit : same_path (path_in scope name) (path_in scope name) ≡ true = rw own (path_same scope.trail name name ∙ (bytes_eq-Decides name name).1 refl) in
      (length flat.paths, place_then name ∙ (ap (λ o. or_place o (cond (same_path (path_in scope name) (path_in scope name)) (Some (length flat.paths)) None)) new ∙ ap (λ b. cond b (Some (length flat.paths)) None) hit))

  fresh_then : IsFresh scope.trail n (path_in scope name)
  fresh_then k rest le is = no_longer scope.trail k rest (sym (ap trail_of own) ∙ is)

  tied_then : Tied longer (local_with (net_list flat) local name) scope n
  tied_then =
      record {
        known = known_then;
        prefix = kept_prefix (net_list flat) local name ∙ tied.prefix;
        in_top = kept_top (net_list flat) local name ∙ tied.in_top;
        top_owns = tied.top_owns;
        owned = λ q. elim (tied.owned q) [ inl is ↦ inl is | inr there ↦ inr (mentioned_then q there) ];
        fresh = each_append (IsFresh scope.trail n) flat.paths (path_in scope name ∷ []) tied.fresh (fresh_then, tt);
      }

  pub new_agrees : Agree (λ f. IsMentioned f (path_in scope name)) flat scope n (Ok longer) (Ok (with_new (tie flat local) name))
  new_agrees = (
    local_with (net_list flat) local name,
    ap (λ (net : NetList). state_with net flat.instances (local_with (net_list flat) local name)) net_longer,
    tied_then,
    (path_in scope name ∷ [], refl, (([], ap trail_of own ∙ sym (append-nil scope.trail)), tt)),
    here_then,
  )

module _ (flat : Flat) (local : Local) (scope : Scope) (n : ℕ) (tied : Tied flat local scope n) where
  pub mention_agrees : (name : Token) → Agree (λ f. IsMentioned f (path_in scope name)) flat scope n (after_step flat (Mention (path_in scope name))) (local_step (tie flat local) (Mention name))
  mention_agrees name = rw (tied.known name, length-map flat.paths label_of) (by (place flat (path_in scope name)) refl (nat_le (2 ^ 20) (length flat.paths)))
    where
      by : (o : Option ℕ) → place flat (path_in scope name) ≡ o → (b : Bool) → Agree (λ f. IsMentioned f (path_in scope name)) flat scope n (cond (is_some o) (Ok flat) (cond b (Err (Net faults.TooManyNets)) (Ok (record flat { paths = flat.paths ++ path_in scope name ∷ [] })))) (cond (is_some o) (Ok (tie flat local)) (cond b (Err (Net faults.TooManyNets)) (Ok (with_new (tie flat local) name))))
      by (Some k) at b = (local, refl, tied, grows_none scope.trail flat flat refl, (k, at))
      by None at true = refl
      by None at false = new_agrees flat local scope n tied name at

  number_same : (name : Token) → number_in (tie flat local) name ≡ number flat (path_in scope name)
  number_same name = ap (λ (o : Option ℕ). unwrap_or o 0) (tied.known name)

  numbers_same : (names : List Token) → map (number_in (tie flat local)) names ≡ map (number flat) (map (path_in scope) names)
  numbers_same [] = refl
  numbers_same (name ∷ names) = ap (λ k. k ∷ map (number_in (tie flat local)) names) (number_same name) ∙ ap (λ (ks : List ℕ). number flat (path_in scope name) ∷ ks) (numbers_same names)

  -- what is placed changes no name
  placed : (net : NetList) (new : Flat) → new.paths ≡ flat.paths → new.instances ≡ flat.instances → net_list new ≡ net → Agree Anything flat scope n (Ok new) (Ok (on_net (tie flat local) net))
  placed net new paths instances is = (
    local,
    ap (λ (x : NetList). state_with x new.instances local) is ∙ ap (λ i. state_with net i local) instances,
    record {
      known = λ q. labels q ∙ (tied.known q ∙ ap (λ (ps : List Path). place_from 0 ps (path_in scope q)) (sym paths));
      prefix = tied.prefix;
      in_top = tied.in_top;
      top_owns = tied.top_owns;
      owned = λ q. elim (tied.owned q) [ inl h ↦ inl h | inr (k, at) ↦ inr (k, ap (λ (ps : List Path). place_from 0 ps (path_in scope q)) paths ∙ at) ];
      fresh = let P : List Path → Type 0 = Each (IsFresh scope.trail n) in subst P (sym paths) tied.fresh;
    },
    grows_none scope.trail flat new paths,
    tt,
  )
    where
      labels : (q : Token) → found_by (net_list new) local q ≡ found_by (net_list flat) local q
      labels q = by local
        where
          by : (l : Local) → found_by (net_list new) l q ≡ found_by (net_list flat) l q
          by InTop = ap (λ (ps : List Path). number_from 0 (map label_of ps) q) paths
          by (Inside text numbers) = refl

  pub step_agrees : (step : Step Token) → Agree Anything flat scope n (after_step flat (along (path_in scope) step)) (local_step (tie flat local) step)
  step_agrees (Mention name) = agree_later (λ f. IsMentioned f (path_in scope name)) Anything flat flat scope n (grows_none scope.trail flat flat refl) (λ new grows there. tt) _ _ (mention_agrees name)
  step_agrees (Input name) = placed _ (record flat { inputs = flat.inputs ++ number flat (path_in scope name) ∷ [] }) refl refl (ap (λ k. record (net_list flat) { inputs = flat.inputs ++ k ∷ [] }) (sym (number_same name)))
  step_agrees (Output name) = placed _ (record flat { outputs = flat.outputs ++ number flat (path_in scope name) ∷ [] }) refl refl (ap (λ k. record (net_list flat) { outputs = flat.outputs ++ k ∷ [] }) (sym (number_same name)))
  step_agrees (Gate inputs out table) = by (nat_le (2 ^ 20) (length flat.gates + length flat.latches))
    where
      same : gate_on flat (map (path_in scope) inputs) (path_in scope out) table ≡ local_gate (tie flat local) inputs out table
      same = rw (number_same out, numbers_same inputs) refl

      by : (b : Bool) → Agree Anything flat scope n (cond b (Err (Net faults.TooManyGates)) (Ok (record flat { gates = flat.gates ++ gate_on flat (map (path_in scope) inputs) (path_in scope out) table ∷ [] }))) (cond b (Err (Net faults.TooManyGates)) (Ok (on_net (tie flat local) (with_gate (net_list flat) (local_gate (tie flat local) inputs out table)))))
      by true = refl
      by false = placed _ (record flat { gates = flat.gates ++ gate_on flat (map (path_in scope) inputs) (path_in scope out) table ∷ [] }) refl refl (ap (with_gate (net_list flat)) same)
  step_agrees (Latch next out start) = by (nat_le (2 ^ 20) (length flat.gates + length flat.latches))
    where
      same : latch_on flat (path_in scope next) (path_in scope out) start ≡ local_latch (tie flat local) next out start
      same = rw (number_same next, number_same out) refl

      by : (b : Bool) → Agree Anything flat scope n (cond b (Err (Net faults.TooManyGates)) (Ok (record flat { latches = flat.latches ++ latch_on flat (path_in scope next) (path_in scope out) start ∷ [] }))) (cond b (Err (Net faults.TooManyGates)) (Ok (on_net (tie flat local) (with_latch (net_list flat) (local_latch (tie flat local) next out start)))))
      by true = refl
      by false = placed _ (record flat { latches = flat.latches ++ latch_on flat (path_in scope next) (path_in scope out) start ∷ [] }) refl refl (ap (with_latch (net_list flat)) same)
  step_agrees Enter = by (nat_le (2 ^ 20) flat.instances)
    where
      by : (b : Bool) → Agree Anything flat scope n (cond b (Err TooManyInstances) (Ok (record flat { instances = flat.instances + 1 }))) (cond b (Err TooManyInstances) (Ok (state_with (net_list flat) (flat.instances + 1) local)))
      by true = refl
      by false = (local, refl, record { known = tied.known; prefix = tied.prefix; in_top = tied.in_top; top_owns = tied.top_owns; owned = tied.owned; fresh = tied.fresh }, grows_none scope.trail flat (record flat { instances = flat.instances + 1 }) refl, tt)

-- steps one after another
pub steps_agree : (steps : List (Step Token)) (flat : Flat) (local : Local) (scope : Scope) (n : ℕ) → Tied flat local scope n → Agree Anything flat scope n (walked flat (map (along (path_in scope)) steps)) (local_walked (tie flat local) steps)
steps_agree [] flat local scope n tied = (local, refl, tied, grows_none scope.trail flat flat refl, tt)
steps_agree (step ∷ steps) flat local scope n tied =
    agree_after Anything Anything flat scope n n (λ more. walked more (map (along (path_in scope)) steps)) (λ more. local_walked more steps) _ _ (step_agrees flat local scope n tied step)
    (λ mid later is grows q. steps_agree steps mid later scope n is)
