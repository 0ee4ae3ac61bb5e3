-- Gates of a walk stand on nets that were mentioned before.
use Rattle.std.proofs.Common.{sym, refl, subst, ℕ, zero, suc, Bool, true, false, List, [], ◌∷◌, ◌++◌, map, flat_map, Option, None, Some}
use Rattle.std.specs.Option.{option_map_or}
use Rattle.lists.specs.Lists.{Has}
use Rattle.net_blif.specs.Statement.{Token}
use Rattle.net_blif.specs.Connection.{actual_of}
use Rattle.net_blif.specs.Design.{ModelValue, items_of, model_named}
use Rattle.net_blif.specs.declared.item.Item.{Item}
use Rattle.net_blif.specs.declared.item.Item.TheVariants as items
use Rattle.net_flat.specs.Paths.{inner, path_in, Path, Scope}
use Rattle.net_flat.specs.Steps.{actual_steps, along, input_steps, output_steps, steps_of, Step, Mention, Input, Output, Gate, Latch, Enter}
use Rattle.net_flat.specs.Walk.{body_in, is_top, lines_in, next_number, steps_in, walk_within}
use Rattle.net_flat.proofs.PathLemmas.{each_weaker, Each}
use Rattle.net_flat.proofs.LiftLemmas.{walk_some, walk_nothing}

-- ---- steps whose gates stand on nets that were mentioned

abbrev pub AreNamed : List Path → List (Step Path) → Type 0
AreNamed seen [] = Unit {0}
AreNamed seen (Mention path ∷ steps) = AreNamed (path ∷ seen) steps
AreNamed seen (Input path ∷ steps) = AreNamed seen steps
AreNamed seen (Output path ∷ steps) = AreNamed seen steps
AreNamed seen (Gate inputs out table ∷ steps) = Each (Has seen) inputs × Has seen out × AreNamed seen steps
AreNamed seen (Latch next out start ∷ steps) = AreNamed seen steps
AreNamed seen (Enter ∷ steps) = AreNamed seen steps

abbrev AreAmong : List Path → List Path → Type 0
AreAmong few many = (path : Path) → Has few path → Has many path

first_among : (few many : List Path) (path : Path) → AreAmong few many → AreAmong (path ∷ few) (path ∷ many)
first_among few many path are other (zero, at) = (zero, at)
first_among few many path are other (suc k, at) = let there = are other (k, at) in (suc there.0, there.1)

pub more_seen : (steps : List (Step Path)) (few many : List Path) → AreAmong few many → AreNamed few steps → AreNamed many steps
more_seen [] few many are named = tt
more_seen (Mention path ∷ steps) few many are named = more_seen steps (path ∷ few) (path ∷ many) (first_among few many path are) named
more_seen (Input path ∷ steps) few many are named = more_seen steps few many are named
more_seen (Output path ∷ steps) few many are named = more_seen steps few many are named
more_seen (Gate inputs out table ∷ steps) few many are named = (each_weaker (Has few) (Has many) inputs are named.0, are out named.1, more_seen steps few many are named.2)
more_seen (Latch next out start ∷ steps) few many are named = more_seen steps few many are named
more_seen (Enter ∷ steps) few many are named = more_seen steps few many are named

none_among : (many : List Path) → AreAmong [] many
none_among many path (k, at) = absurd (cc)

pub named_append : (xs ys : List (Step Path)) (seen : List Path) → AreNamed seen xs → AreNamed [] ys → AreNamed seen (xs ++ ys)
named_append [] ys seen first second = more_seen ys [] seen (none_among seen) second
named_append (Mention path ∷ xs) ys seen first second = named_append xs ys (path ∷ seen) first second
named_append (Input path ∷ xs) ys seen first second = named_append xs ys seen first second
named_append (Output path ∷ xs) ys seen first second = named_append xs ys seen first second
named_append (Gate inputs out table ∷ xs) ys seen first second = (first.0, first.1, named_append xs ys seen first.2 second)
named_append (Latch next out start ∷ xs) ys seen first second = named_append xs ys seen first second
named_append (Enter ∷ xs) ys seen first second = named_append xs ys seen first second

module _ (scope : Scope) where
  abbrev in_scope : List (Step Token) → List (Step Path)
  in_scope steps = map (along (path_in scope)) steps

  -- steps after mentions, where what is mentioned before is kept
  mentions_named : (names : List Token) (rest : List (Step Token)) (seen : List Path) → ((all : List Path) → AreAmong seen all → Each (Has all) (map (path_in scope) names) → AreNamed all (in_scope rest)) → AreNamed seen (in_scope (map Mention names ++ rest))
  mentions_named [] rest seen then = then seen (λ path has. has) tt
  mentions_named (name ∷ names) rest seen then =
      mentions_named names rest (path_in scope name ∷ seen) (λ all are each. then all (λ path has. are path (suc has.0, has.1)) (are (path_in scope name) (zero, refl), each))

  line_named : (b : Bool) (item : Item) → AreNamed [] (in_scope (steps_of b item))
  line_named b (items.Inputs names) = by b names []
    where
      by : (b : Bool) (names : List Token) (seen : List Path) → AreNamed seen (in_scope (flat_map (input_steps b) names))
      by b [] seen = tt
      by true (name ∷ names) seen = by true names (path_in scope name ∷ seen)
      by false (name ∷ names) seen = by false names (path_in scope name ∷ seen)
  line_named b (items.Outputs names) = by b names []
    where
      by : (b : Bool) (names : List Token) (seen : List Path) → AreNamed seen (in_scope (flat_map (output_steps b) names))
      by b [] seen = tt
      by true (name ∷ names) seen = by true names (path_in scope name ∷ seen)
      by false (name ∷ names) seen = by false names (path_in scope name ∷ seen)
  line_named b (items.Gate line inputs out table) =
      mentions_named inputs (Mention out ∷ Gate inputs out table ∷ []) [] (λ all are each.
      (each_weaker (Has all) (Has (path_in scope out ∷ all)) (map (path_in scope) inputs) (λ path has. (suc has.0, has.1)) each, (zero, refl), tt))
  line_named b (items.Latch line next out start) = tt
  line_named b (items.Instance line model connections) = by connections []
    where
      by : (connections : List Token) (seen : List Path) → AreNamed seen (in_scope (actual_steps connections))
      by [] seen = tt
      by (c ∷ rest) seen = by rest (path_in scope (actual_of c) ∷ seen)

module _ (design : List ModelValue) (inside : Scope → ℕ → List (Step Path)) (bodies : (scope : Scope) (model : ℕ) → AreNamed [] (inside scope model)) where
  body_named : (scope : Scope) (n : ℕ) (item : Item) → AreNamed [] (body_in inside design scope n item)
  body_named scope n (items.Inputs names) = tt
  body_named scope n (items.Outputs names) = tt
  body_named scope n (items.Gate line inputs out table) = tt
  body_named scope n (items.Latch line next out start) = tt
  body_named scope n (items.Instance line model connections) = by (model_named design model)
    where
      by : (found : Option ℕ) → AreNamed [] (option_map_or (inside (inner scope n connections)) found [])
      by None = tt
      by (Some m) = bodies (inner scope n connections) m

  lines_named : (lines : List Item) (scope : Scope) (n : ℕ) → AreNamed [] (lines_in inside design scope n lines)
  lines_named [] scope n = tt
  lines_named (item ∷ lines) scope n =
      named_append (steps_in scope item) (body_in inside design scope n item ++ lines_in inside design scope (next_number n item) lines) [] (line_named scope (is_top scope.trail) item)
      (named_append (body_in inside design scope n item) (lines_in inside design scope (next_number n item) lines) [] (body_named scope n item) (lines_named lines scope (next_number n item)))

pub walk_named : (depth : ℕ) (design : List ModelValue) (scope : Scope) (model : ℕ) → AreNamed [] (walk_within depth design scope model)
walk_named zero design scope model = let P : List (Step Path) → Type 0 = AreNamed [] in subst P (sym (walk_nothing design scope model)) tt
walk_named (suc depth) design scope model =
    let P : List (Step Path) → Type 0 = AreNamed [] in
    subst P (sym (walk_some depth design scope model)) (lines_named design (walk_within depth design) (walk_named depth design) (items_of design model) scope 1)
