-- The walk through instances, over paths and over tables.
use Rattle.std.proofs.Common.{◌≡◌, ◌⊎◌, ◌∙◌, inl, inr, ap, sym, refl, subst, append_assoc, append-nil, ℕ, zero, suc, ◌+◌, Bool, true, false, cond, List, [], ◌∷◌, ◌++◌, map, Option, None, Some, Result, Ok, Err, arith}
use Rattle.std.specs.Prelude.{unwrap_or, codes}
use Rattle.std.specs.Option.{option_map_or}
use Rattle.std.specs.Fmt.{decimal}
use Rattle.std.specs.Str.{bytes_eq}
use Rattle.outcome.specs.Steps.{on_value}
use Rattle.net_core.specs.NetList.{NetList, empty}
use Rattle.net_blif.specs.Statement.{Token}
use Rattle.net_blif.specs.Connection.{actual_of, formal_of}
use Rattle.net_blif.specs.Design.{ModelValue, items_of, model_named}
use Rattle.net_blif.specs.declared.item.Item.{Item}
use Rattle.net_flat.proofs.LiftLemmas.{walk_some, walk_nothing}
use Rattle.net_blif.specs.declared.item.Item.TheVariants as items
use Rattle.net_flat.specs.Paths.{connected, inner, path_among, path_in, same_path, top, At, Path, Scope}
use Rattle.net_flat.specs.Steps.{actual_steps, along, steps_of, Step, Enter}
use Rattle.net_flat.specs.Walk.{body_in, is_top, lines_in, next_number, steps_in, walk_of, walk_within}
use Rattle.net_flat.specs.Flat.{after_step, net_list, nothing, place_from, walked, walked_by, Flat}
use Rattle.net_flat.specs.private.LocalWalk.{back_to, entered, found_by, is_in_top, local_body, local_line, local_lines, local_walked, local_within, number_in, numbers_of, state_with, InTop, Inside, Local, State}
use Rattle.net_flat.specs.declared.flat_fault.FlatFault.{FlatFault}
use Rattle.net_flat.proofs.PathLemmas.{each_append, each_weaker, next_same, no_longer, none_among, path_other, place_kept, place_named, place_past, prefix_push, Each}
use Rattle.net_flat.proofs.TiedLemmas.{agree_after, agree_later, grows_none, kept_mentioned, mention_agrees, place, step_agrees, steps_agree, tie, Agree, Anything, Grows, IsFresh, IsMentioned, IsUnder, Tied}

-- steps and then others
pub walked_append : {S N F : Type 0} (after : S → Step N → Result S F) (state : S) (xs ys : List (Step N)) → walked_by after state (xs ++ ys) ≡ on_value (λ more. walked_by after more ys) (walked_by after state xs)
walked_append {S} {N} {F} after state [] ys = refl
walked_append {S} {N} {F} after state (x ∷ xs) ys = further (λ more. walked_append after more xs ys) (after state x)
  where
    further : ((more : S) → walked_by after more (xs ++ ys) ≡ on_value (λ m. walked_by after m ys) (walked_by after more xs)) → (r : Result S F) → on_value (λ more. walked_by after more (xs ++ ys)) r ≡ on_value (λ more. walked_by after more ys) (on_value (λ more. walked_by after more xs) r)
    further rest (Ok more) = rest more
    further rest (Err e) = refl

-- the nets of these names were mentioned
abbrev AreMentioned : Scope → List Token → Flat → Type 0
AreMentioned scope names flat = Each (λ name. IsMentioned flat (path_in scope name)) names

actuals_agree : (connections : List Token) (flat : Flat) (local : Local) (scope : Scope) (n : ℕ) → Tied flat local scope n → Agree (AreMentioned scope (map actual_of connections)) flat scope n (walked flat (map (along (path_in scope)) (actual_steps connections))) (local_walked (tie flat local) (actual_steps connections))
actuals_agree [] flat local scope n tied = (local, refl, tied, grows_none scope.trail flat flat refl, tt)
actuals_agree (c ∷ cs) flat local scope n tied =
    agree_after (λ f. IsMentioned f (path_in scope (actual_of c))) (AreMentioned scope (map actual_of (c ∷ cs))) flat scope n n (λ more. walked more (map (along (path_in scope)) (actual_steps cs))) (λ more. local_walked more (actual_steps cs)) _ _ (mention_agrees flat local scope n tied (actual_of c))
    (λ mid later is grows there. agree_later (AreMentioned scope (map actual_of cs)) (AreMentioned scope (map actual_of (c ∷ cs))) mid mid scope n (grows_none scope.trail mid mid refl) (λ new more rest. (kept_mentioned scope.trail mid new (path_in scope (actual_of c)) more there, rest)) _ _ (actuals_agree cs mid later scope n is))

-- what is known in an instance that is entered
module _ (flat : Flat) (local : Local) (scope : Scope) (n : ℕ) (tied : Tied flat local scope n) where
  not_there : (q : Token) → Each (λ p. same_path (At (scope.trail ++ n ∷ []) q) p ≡ false) flat.paths
  not_there q = each_weaker (IsFresh scope.trail n) (λ p. same_path (At (scope.trail ++ n ∷ []) q) p ≡ false) flat.paths (λ p fresh. path_other (scope.trail ++ n ∷ []) q p (λ same. fresh n [] (omega arith) (sym same))) tied.fresh

  numbers_known : (connections : List Token) → AreMentioned scope (map actual_of connections) flat → (q : Token) → numbers_of (tie flat local) connections q ≡ place flat (path_among (map (connected scope) connections) (At (scope.trail ++ n ∷ []) q) q)
  numbers_known [] are q = sym (none_among 0 flat.paths (At (scope.trail ++ n ∷ []) q) (not_there q))
  numbers_known (c ∷ cs) are q = by (numbers_known cs are.1 q) (bytes_eq (formal_of c) q)
    where
      actual : Some (number_in (tie flat local) (actual_of c)) ≡ place flat (path_in scope (actual_of c))
      actual = let at = tied.known (actual_of c) ∙ are.0.1 in ap (λ (o : Option ℕ). Some (unwrap_or o 0)) at ∙ sym are.0.1

      by : numbers_of (tie flat local) cs q ≡ place flat (path_among (map (connected scope) cs) (At (scope.trail ++ n ∷ []) q) q) → (b : Bool) → cond b (Some (number_in (tie flat local) (actual_of c))) (numbers_of (tie flat local) cs q) ≡ place flat (cond b (path_in scope (actual_of c)) (path_among (map (connected scope) cs) (At (scope.trail ++ n ∷ []) q) q))
      by rest true = actual
      by rest false = rest

  owned_inside : (connections : List Token) → AreMentioned scope (map actual_of connections) flat → (q : Token) → (path_among (map (connected scope) connections) (At (scope.trail ++ n ∷ []) q) q ≡ At (scope.trail ++ n ∷ []) q) ⊎ IsMentioned flat (path_among (map (connected scope) connections) (At (scope.trail ++ n ∷ []) q) q)
  owned_inside [] are q = inl refl
  owned_inside (c ∷ cs) are q = by (owned_inside cs are.1 q) (bytes_eq (formal_of c) q)
    where
      by : (path_among (map (connected scope) cs) (At (scope.trail ++ n ∷ []) q) q ≡ At (scope.trail ++ n ∷ []) q) ⊎ IsMentioned flat (path_among (map (connected scope) cs) (At (scope.trail ++ n ∷ []) q) q) → (b : Bool) → (cond b (path_in scope (actual_of c)) (path_among (map (connected scope) cs) (At (scope.trail ++ n ∷ []) q) q) ≡ At (scope.trail ++ n ∷ []) q) ⊎ IsMentioned flat (cond b (path_in scope (actual_of c)) (path_among (map (connected scope) cs) (At (scope.trail ++ n ∷ []) q) q))
      by rest true = inr are.0
      by rest false = rest

  below_top : (t : List ℕ) (k : ℕ) → is_top (t ++ k ∷ []) ≡ false
  below_top [] k = refl
  below_top (j ∷ js) k = refl

  fresh_inside : (p : Path) → IsFresh scope.trail n p → IsFresh (scope.trail ++ n ∷ []) 1 p
  fresh_inside p fresh k rest le is = fresh n (k ∷ rest) (omega arith) (is ∙ append_assoc scope.trail (n ∷ []) (k ∷ rest))

  pub tied_inside : (connections : List Token) → AreMentioned scope (map actual_of connections) flat → Tied flat (entered (tie flat local) n connections).local (inner scope n connections) 1
  tied_inside connections are =
      record {
        known = numbers_known connections are;
        prefix = ap (λ (p : List ℕ). p ++ (decimal n ++ codes "/")) tied.prefix ∙ sym (prefix_push scope.trail n);
        in_top = sym (below_top scope.trail n);
        top_owns = λ is. let not : is_top (scope.trail ++ n ∷ []) ≡ false = below_top scope.trail n in absurd (cc);
        owned = owned_inside connections are;
        fresh = each_weaker (IsFresh scope.trail n) (IsFresh (scope.trail ++ n ∷ []) 1) flat.paths fresh_inside tied.fresh;
      }

-- both walks met the same, whatever is known after them
abbrev pub Same : List ℕ → Flat → Result Flat FlatFault → Result State FlatFault → Type 0
Same trail flat (Ok new) (Ok state) = (net_list new ≡ state.net) × (new.instances ≡ state.instances) × Grows trail flat new
Same trail flat (Err e) (Err f) = e ≡ f
Same trail flat (Ok new) (Err f) = ⊥
Same trail flat (Err e) (Ok state) = ⊥

forget : (Q : Flat → Type 0) (flat : Flat) (scope : Scope) (n : ℕ) (a : Result Flat FlatFault) (b : Result State FlatFault) → Agree Q flat scope n a b → Same scope.trail flat a b
forget Q flat scope n (Ok new) (Ok state) (local, same, tied, grows, q) = (ap (λ (s : State). s.net) same, ap (λ (s : State). s.instances) same, grows)
forget Q flat scope n (Err e) (Err f) same = same
forget Q flat scope n (Ok new) (Err f) h = absurd h
forget Q flat scope n (Err e) (Ok state) h = absurd h

-- back from an instance
module _ (flat : Flat) (local : Local) (scope : Scope) (n : ℕ) (tied : Tied flat local scope n) (new : Flat) (grows : Grows (scope.trail ++ n ∷ []) flat new) where
  abbrev more : List Path
  more = grows.0

  under : (p : Path) → IsUnder (scope.trail ++ n ∷ []) p → IsUnder scope.trail p
  under p (rest, is) = (n ∷ rest, is ∙ append_assoc scope.trail (n ∷ []) rest)

  others : (q : Token) → Each (λ p. same_path (At scope.trail q) p ≡ false) more
  others q = each_weaker (IsUnder (scope.trail ++ n ∷ [])) (λ p. same_path (At scope.trail q) p ≡ false) more (λ p below. path_other scope.trail q p (λ same. no_longer scope.trail n below.0 (same ∙ (below.1 ∙ append_assoc scope.trail (n ∷ []) below.0)))) grows.2

  place_back : (q : Token) → place new (path_in scope q) ≡ place flat (path_in scope q)
  place_back q =
      ap (λ (ps : List Path). place_from 0 ps (path_in scope q)) grows.1
      ∙ elim (tied.owned q) [
        | inl own ↦ let P : Path → Type 0 = λ r. Each (λ p. same_path r p ≡ false) more in place_past 0 flat.paths more (path_in scope q) (subst P (sym own) (others q))
        | inr (k, at) ↦ place_kept 0 flat.paths more (path_in scope q) k at ∙ sym at
      ]

  known_back : (q : Token) → found_by (net_list new) local q ≡ place new (path_in scope q)
  known_back q = by local refl
    where
      no_trail : (t : List ℕ) → is_top t ≡ true → t ≡ []
      no_trail [] e = refl
      no_trail (k ∷ ks) e = absurd (cc)

      by : (l : Local) → local ≡ l → found_by (net_list new) l q ≡ place new (path_in scope q)
      by InTop is =
          let is_it : is_top scope.trail ≡ true = sym tied.in_top ∙ ap is_in_top is in
          place_named 0 new.paths q ∙ ap (place new) (sym (tied.top_owns is_it q ∙ ap (λ (t : List ℕ). At t q) (no_trail scope.trail is_it)))
      by (Inside text numbers) is = sym (ap (λ (l : Local). found_by (net_list flat) l q) is) ∙ (tied.known q ∙ sym (place_back q))

  later_fresh : (p : Path) → IsUnder (scope.trail ++ n ∷ []) p → IsFresh scope.trail (n + 1) p
  later_fresh p (rest, is) k others le same =
      let one : n ≡ k = next_same scope.trail n k rest others (sym (append_assoc scope.trail (n ∷ []) rest) ∙ (sym is ∙ same)) in
      omega (arith, one, le)

  pub tied_back : Tied new local scope (n + 1)
  tied_back =
      record {
        known = known_back;
        prefix = tied.prefix;
        in_top = tied.in_top;
        top_owns = tied.top_owns;
        owned = λ q. elim (tied.owned q) [ inl is ↦ inl is | inr (k, at) ↦ inr (k, place_back q ∙ at) ];
        fresh =
            let P : List Path → Type 0 = Each (IsFresh scope.trail (n + 1)) in
            subst P (sym grows.1) (each_append (IsFresh scope.trail (n + 1)) flat.paths more (each_weaker (IsFresh scope.trail n) (IsFresh scope.trail (n + 1)) flat.paths (λ p fresh k rest le. fresh k rest (omega (arith, le))) tied.fresh) (each_weaker (IsUnder (scope.trail ++ n ∷ [])) (IsFresh scope.trail (n + 1)) more later_fresh grows.2));
      }

  pub grows_back : Grows scope.trail flat new
  grows_back = (more, grows.1, each_weaker (IsUnder (scope.trail ++ n ∷ [])) (IsUnder scope.trail) more under grows.2)

back_agrees : (flat : Flat) (local : Local) (scope : Scope) (n : ℕ) → Tied flat local scope n → (a : Result Flat FlatFault) (b : Result State FlatFault) → Same (scope.trail ++ n ∷ []) flat a b → Agree Anything flat scope (n + 1) a (on_value (back_to (tie flat local)) b)
back_agrees flat local scope n tied (Ok new) (Ok state) (net, instances, grows) = (
  local,
  ap (λ (x : NetList). state_with x new.instances local) net ∙ ap (λ i. state_with state.net i local) instances,
  tied_back flat local scope n tied new grows,
  grows_back flat local scope n tied new grows,
  tt,
)
back_agrees flat local scope n tied (Err e) (Err f) same = same
back_agrees flat local scope n tied (Ok new) (Err f) h = absurd h
back_agrees flat local scope n tied (Err e) (Ok state) h = absurd h

-- the number after the instances of these lines
abbrev last_number : ℕ → List Item → ℕ
last_number n [] = n
last_number n (item ∷ lines) = last_number (next_number n item) lines

-- walks of bodies meet the same
abbrev BodiesAgree : List ModelValue → (Scope → ℕ → List (Step Path)) → (State → ℕ → Result State FlatFault) → Type 0
BodiesAgree design inside goes = (flat : Flat) (local : Local) (scope : Scope) (model : ℕ) → Tied flat local scope 1 → Same scope.trail flat (walked flat (inside scope model)) (goes (tie flat local) model)

module _ (design : List ModelValue) (inside : Scope → ℕ → List (Step Path)) (goes : State → ℕ → Result State FlatFault) (bodies : BodiesAgree design inside goes) where
  instance_agrees : (flat : Flat) (local : Local) (scope : Scope) (n : ℕ) (connections : List Token) (found : Option ℕ) → Tied flat local scope n → AreMentioned scope (map actual_of connections) flat → Agree Anything flat scope (n + 1) (walked flat (option_map_or (inside (inner scope n connections)) found [])) (option_map_or (λ m. on_value (back_to (tie flat local)) (goes (entered (tie flat local) n connections) m)) found (Ok (tie flat local)))
  instance_agrees flat local scope n connections None tied are = (
    local,
    refl,
    record { known = tied.known; prefix = tied.prefix; in_top = tied.in_top; top_owns = tied.top_owns; owned = tied.owned; fresh = each_weaker (IsFresh scope.trail n) (IsFresh scope.trail (n + 1)) flat.paths (λ p fresh k rest le. fresh k rest (omega (arith, le))) tied.fresh },
    grows_none scope.trail flat flat refl,
    tt,
  )
  instance_agrees flat local scope n connections (Some m) tied are =
      back_agrees flat local scope n tied _ _ (bodies flat (entered (tie flat local) n connections).local (inner scope n connections) m (tied_inside flat local scope n tied connections are))

  -- a line that is no instance
  plain_agrees : (flat : Flat) (local : Local) (scope : Scope) (n : ℕ) (steps : List (Step Token)) → Tied flat local scope n → Agree Anything flat scope n (walked flat (map (along (path_in scope)) steps ++ [])) (on_value (λ mentioned. Ok mentioned) (local_walked (tie flat local) steps))
  plain_agrees flat local scope n steps tied =
      let P : Result Flat FlatFault → Type 0 = λ r. Agree Anything flat scope n r (on_value (λ mentioned. Ok mentioned) (local_walked (tie flat local) steps)) in
      let whole : walked flat (map (along (path_in scope)) steps) ≡ walked flat (map (along (path_in scope)) steps ++ []) = ap (walked flat) (sym (append-nil (map (along (path_in scope)) steps))) in
      subst P whole (by (walked flat (map (along (path_in scope)) steps)) (local_walked (tie flat local) steps) (steps_agree steps flat local scope n tied))
    where
      by : (a : Result Flat FlatFault) (b : Result State FlatFault) → Agree Anything flat scope n a b → Agree Anything flat scope n a (on_value (λ mentioned. Ok mentioned) b)
      by (Ok new) (Ok state) h = h
      by (Err e) (Err f) h = h
      by (Ok new) (Err f) h = absurd h
      by (Err e) (Ok state) h = absurd h

  line_agrees_in : (is : Bool) (flat : Flat) (local : Local) (scope : Scope) (n : ℕ) (item : Item) → Tied flat local scope n → Agree Anything flat scope (next_number n item) (walked flat (map (along (path_in scope)) (steps_of is item) ++ body_in inside design scope n item)) (on_value (λ mentioned. local_body goes design mentioned n item) (local_walked (tie flat local) (steps_of is item)))
  line_agrees_in is flat local scope n (items.Inputs nets) tied = plain_agrees flat local scope n (steps_of is (items.Inputs nets)) tied
  line_agrees_in is flat local scope n (items.Outputs nets) tied = plain_agrees flat local scope n (steps_of is (items.Outputs nets)) tied
  line_agrees_in is flat local scope n (items.Gate line inputs out table) tied = plain_agrees flat local scope n (steps_of is (items.Gate line inputs out table)) tied
  line_agrees_in is flat local scope n (items.Latch line next out start) tied = plain_agrees flat local scope n (steps_of is (items.Latch line next out start)) tied
  line_agrees_in is flat local scope n (items.Instance line name connections) tied =
      let body = option_map_or (inside (inner scope n connections)) (model_named design name) [] in
      let steps = map (along (path_in scope)) (Enter ∷ actual_steps connections) in
      let P : Result Flat FlatFault → Type 0 = λ r. Agree Anything flat scope (n + 1) r (on_value (λ mentioned. local_body goes design mentioned n (items.Instance line name connections)) (local_walked (tie flat local) (Enter ∷ actual_steps connections))) in
      subst P (sym (walked_append after_step flat steps body))
      (agree_after (AreMentioned scope (map actual_of connections)) Anything flat scope n (n + 1) (λ more. walked more body) (λ mentioned. local_body goes design mentioned n (items.Instance line name connections)) _ _
      (agree_after Anything (AreMentioned scope (map actual_of connections)) flat scope n n (λ more. walked more (map (along (path_in scope)) (actual_steps connections))) (λ more. local_walked more (actual_steps connections)) _ _ (step_agrees flat local scope n tied Enter) (λ mid later is grows q. actuals_agree connections mid later scope n is))
      (λ mid later is grows are. instance_agrees mid later scope n connections (model_named design name) is are))

  line_agrees : (flat : Flat) (local : Local) (scope : Scope) (n : ℕ) (item : Item) → Tied flat local scope n → Agree Anything flat scope (next_number n item) (walked flat (steps_in scope item ++ body_in inside design scope n item)) (local_line goes design (tie flat local) n item)
  line_agrees flat local scope n item tied =
      let P : Bool → Type 0 = λ b. Agree Anything flat scope (next_number n item) (walked flat (map (along (path_in scope)) (steps_of b item) ++ body_in inside design scope n item)) (local_line goes design (tie flat local) n item) in
      subst P tied.in_top (line_agrees_in (is_in_top local) flat local scope n item tied)

  lines_agree : (lines : List Item) (flat : Flat) (local : Local) (scope : Scope) (n : ℕ) → Tied flat local scope n → Agree Anything flat scope (last_number n lines) (walked flat (lines_in inside design scope n lines)) (local_lines goes design (tie flat local) n lines)
  lines_agree [] flat local scope n tied = (local, refl, tied, grows_none scope.trail flat flat refl, tt)
  lines_agree (item ∷ lines) flat local scope n tied =
      let rest = lines_in inside design scope (next_number n item) lines in
      let P : Result Flat FlatFault → Type 0 = λ r. Agree Anything flat scope (last_number (next_number n item) lines) r (on_value (λ more. local_lines goes design more (next_number n item) lines) (local_line goes design (tie flat local) n item)) in
      let whole : walked flat (steps_in scope item ++ (body_in inside design scope n item ++ rest)) ≡ on_value (λ more. walked more rest) (walked flat (steps_in scope item ++ body_in inside design scope n item)) = ap (walked flat) (sym (append_assoc (steps_in scope item) (body_in inside design scope n item) rest)) ∙ walked_append after_step flat (steps_in scope item ++ body_in inside design scope n item) rest in
      subst P (sym whole)
      (agree_after Anything Anything flat scope (next_number n item) (last_number (next_number n item) lines) (λ more. walked more rest) (λ more. local_lines goes design more (next_number n item) lines) _ _ (line_agrees flat local scope n item tied)
      (λ mid later is grows q. lines_agree lines mid later scope (next_number n item) is))

pub local_walk_step : (depth : ℕ) (design : List ModelValue) (state : State) (model : ℕ) → local_within (suc depth) design state model ≡ local_lines (local_within depth design) design state 1 (items_of design model)
unfolding local_within
local_walk_step depth design state model = refl

pub local_walk_none : (design : List ModelValue) (state : State) (model : ℕ) → local_within 0 design state model ≡ Ok state
unfolding local_within
local_walk_none design state model = refl

-- through any number of models
bodies_agree : (depth : ℕ) (design : List ModelValue) → BodiesAgree design (walk_within depth design) (local_within depth design)
bodies_agree zero design flat local scope model tied =
    rw (walk_nothing design scope model, local_walk_none design (tie flat local) model) (refl, refl, grows_none scope.trail flat flat refl)
bodies_agree (suc depth) design flat local scope model tied =
    rw (walk_some depth design scope model, local_walk_step depth design (tie flat local) model)
    (forget Anything flat scope (last_number 1 (items_of design model)) _ _ (lines_agree design (walk_within depth design) (local_within depth design) (bodies_agree depth design) (items_of design model) flat local scope 1 tied))

-- before the first line
start_tied : Tied nothing InTop top 1
start_tied = record { known = λ name. refl; prefix = refl; in_top = refl; top_owns = λ is name. refl; owned = λ name. inl refl; fresh = tt }

-- the walk over a model
pub walk_same : (design : List ModelValue) (model : ℕ) → Same [] nothing (walked nothing (walk_of design model)) (local_within 64 design (state_with empty 0 InTop) model)
walk_same design model = bodies_agree 64 design nothing InTop top model start_tied
