-- The walk over a model inside an instance, step by step the walk over the model by itself.
use Rattle.std.proofs.Common.{◌≡◌, ◌∙◌, ap, sym, refl, append_assoc, ℕ, zero, suc, Bool, true, false, cond, List, [], ◌∷◌, ◌++◌, map, flat_map, Option, None, Some}
use Rattle.std.specs.Option.{option_map_or}
use Rattle.std.specs.Str.{bytes_eq}
use Rattle.net_blif.specs.Statement.{Token}
use Rattle.net_blif.specs.Connection.{actual_of, formal_of}
use Rattle.net_blif.specs.Design.{ModelValue, items_of, model_named}
use Rattle.net_blif.specs.declared.item.Item.{Item}
use Rattle.net_blif.specs.declared.item.Item.TheVariants as items
use Rattle.net_flat.specs.Paths.{connected, inner, path_among, path_in, top, At, Path, Scope}
use Rattle.net_flat.specs.Steps.{actual_steps, along, input_steps, output_steps, steps_of, Step, Mention, Input, Output, Gate, Latch, Enter}
use Rattle.net_flat.specs.Walk.{body_in, is_top, lines_in, next_number, steps_in, walk_within}
use Rattle.net_flat.specs.Part.{path_in_whole}

pub walk_some : (depth : ℕ) (design : List ModelValue) (scope : Scope) (model : ℕ) → walk_within (suc depth) design scope model ≡ lines_in (walk_within depth design) design scope 1 (items_of design model)
unfolding walk_within
walk_some depth design scope model = refl

pub walk_nothing : (design : List ModelValue) (scope : Scope) (model : ℕ) → walk_within 0 design scope model ≡ []
unfolding walk_within
walk_nothing design scope model = refl

module _ (i : ℕ) (cs : List Token) where
  -- a step in the instance: its inputs and outputs are none of the whole
  abbrev pub lifted_step : Step Path → List (Step Path)
  lifted_step (Mention path) = Mention (path_in_whole i cs path) ∷ []
  lifted_step (Input path) = []
  lifted_step (Output path) = []
  lifted_step (Gate inputs out table) = Gate (map (path_in_whole i cs) inputs) (path_in_whole i cs out) table ∷ []
  lifted_step (Latch next out start) = Latch (path_in_whole i cs next) (path_in_whole i cs out) start ∷ []
  lifted_step Enter = Enter ∷ []

  abbrev pub lifted : List (Step Path) → List (Step Path)
  lifted [] = []
  lifted (step ∷ steps) = lifted_step step ++ lifted steps

  lifted_append : (xs ys : List (Step Path)) → lifted (xs ++ ys) ≡ lifted xs ++ lifted ys
  lifted_append [] ys = refl
  lifted_append (x ∷ xs) ys = ap (λ (zs : List (Step Path)). lifted_step x ++ zs) (lifted_append xs ys) ∙ sym (append_assoc (lifted_step x) (lifted xs) (lifted ys))

  -- a scope of the model by itself, and the same in the whole
  pub record AreAligned (alone whole : Scope) : Type 0 where
    pub trail : whole.trail ≡ i ∷ alone.trail
    pub nets : (name : Token) → path_in whole name ≡ path_in_whole i cs (path_in alone name)

  pub start_aligned : AreAligned top (inner top i cs)
  start_aligned = record { trail = refl; nets = λ name. refl }

  pushed : (trail : List ℕ) (n : ℕ) (name : Token) → At (i ∷ (trail ++ n ∷ [])) name ≡ path_in_whole i cs (At (trail ++ n ∷ []) name)
  pushed [] n name = refl
  pushed (k ∷ ks) n name = refl

  module _ (alone whole : Scope) (are : AreAligned alone whole) where
    inner_aligned : (n : ℕ) (connections : List Token) → AreAligned (inner alone n connections) (inner whole n connections)
    inner_aligned n connections = record { trail = ap (λ (t : List ℕ). t ++ n ∷ []) are.trail; nets = λ name. found connections name }
      where
        own : (name : Token) → At (whole.trail ++ n ∷ []) name ≡ path_in_whole i cs (At (alone.trail ++ n ∷ []) name)
        own name = ap (λ (t : List ℕ). At (t ++ n ∷ []) name) are.trail ∙ pushed alone.trail n name

        found : (connections : List Token) (name : Token) → path_among (map (connected whole) connections) (At (whole.trail ++ n ∷ []) name) name ≡ path_in_whole i cs (path_among (map (connected alone) connections) (At (alone.trail ++ n ∷ []) name) name)
        found [] name = own name
        found (c ∷ rest) name = by (found rest name) (bytes_eq (formal_of c) name)
          where
            by : path_among (map (connected whole) rest) (At (whole.trail ++ n ∷ []) name) name ≡ path_in_whole i cs (path_among (map (connected alone) rest) (At (alone.trail ++ n ∷ []) name) name) → (b : Bool) → cond b (path_in whole (actual_of c)) (path_among (map (connected whole) rest) (At (whole.trail ++ n ∷ []) name) name) ≡ path_in_whole i cs (cond b (path_in alone (actual_of c)) (path_among (map (connected alone) rest) (At (alone.trail ++ n ∷ []) name) name))
            by later true = are.nets (actual_of c)
            by later false = later

    in_instance : is_top whole.trail ≡ false
    in_instance = ap is_top are.trail

    both_nets : (names : List Token) → map (path_in whole) names ≡ map (path_in_whole i cs) (map (path_in alone) names)
    both_nets [] = refl
    both_nets (name ∷ names) = λ j. are.nets name j ∷ both_nets names j

    abbrev in_whole : List (Step Token) → List (Step Path)
    in_whole steps = map (along (path_in whole)) steps

    abbrev in_alone : List (Step Token) → List (Step Path)
    in_alone steps = map (along (path_in alone)) steps

    mentions : (names : List Token) (rest : List (Step Token)) → in_whole rest ≡ lifted (in_alone rest) → in_whole (map Mention names ++ rest) ≡ lifted (in_alone (map Mention names ++ rest))
    mentions [] rest same = same
    mentions (name ∷ names) rest same = λ j. Mention (are.nets name j) ∷ mentions names rest same j

    line_lifted : (b : Bool) (item : Item) → in_whole (steps_of false item) ≡ lifted (in_alone (steps_of b item))
    line_lifted b (items.Inputs names) = by b names
      where
        by : (b : Bool) (names : List Token) → in_whole (flat_map (input_steps false) names) ≡ lifted (in_alone (flat_map (input_steps b) names))
        by b [] = refl
        by true (name ∷ names) = λ j. Mention (are.nets name j) ∷ by true names j
        by false (name ∷ names) = λ j. Mention (are.nets name j) ∷ by false names j
    line_lifted b (items.Outputs names) = by b names
      where
        by : (b : Bool) (names : List Token) → in_whole (flat_map (output_steps false) names) ≡ lifted (in_alone (flat_map (output_steps b) names))
        by b [] = refl
        by true (name ∷ names) = λ j. Mention (are.nets name j) ∷ by true names j
        by false (name ∷ names) = λ j. Mention (are.nets name j) ∷ by false names j
    line_lifted b (items.Gate line inputs out table) = mentions inputs (Mention out ∷ Gate inputs out table ∷ []) (λ j. Mention (are.nets out j) ∷ Gate (both_nets inputs j) (are.nets out j) table ∷ [])
    line_lifted b (items.Latch line next out start) = λ j. Mention (are.nets next j) ∷ Mention (are.nets out j) ∷ Latch (are.nets next j) (are.nets out j) start ∷ []
    line_lifted b (items.Instance line model connections) = ap (λ (steps : List (Step Path)). Enter ∷ steps) (by connections)
      where
        by : (connections : List Token) → in_whole (actual_steps connections) ≡ lifted (in_alone (actual_steps connections))
        by [] = refl
        by (c ∷ rest) = λ j. Mention (are.nets (actual_of c) j) ∷ by rest j

    steps_lifted : (item : Item) → steps_in whole item ≡ lifted (steps_in alone item)
    steps_lifted item = ap (λ b. in_whole (steps_of b item)) in_instance ∙ line_lifted (is_top alone.trail) item

  -- bodies that are lifted
  abbrev BodiesLifted : (Scope → ℕ → List (Step Path)) → Type 0
  BodiesLifted inside = (alone whole : Scope) (model : ℕ) → AreAligned alone whole → inside whole model ≡ lifted (inside alone model)

  module _ (design : List ModelValue) (inside : Scope → ℕ → List (Step Path)) (bodies : BodiesLifted inside) where
    body_lifted : (alone whole : Scope) (n : ℕ) (item : Item) → AreAligned alone whole → body_in inside design whole n item ≡ lifted (body_in inside design alone n item)
    body_lifted alone whole n (items.Inputs names) are = refl
    body_lifted alone whole n (items.Outputs names) are = refl
    body_lifted alone whole n (items.Gate line inputs out table) are = refl
    body_lifted alone whole n (items.Latch line next out start) are = refl
    body_lifted alone whole n (items.Instance line model connections) are = by (model_named design model)
      where
        by : (found : Option ℕ) → option_map_or (inside (inner whole n connections)) found [] ≡ lifted (option_map_or (inside (inner alone n connections)) found [])
        by None = refl
        by (Some m) = bodies (inner alone n connections) (inner whole n connections) m (inner_aligned alone whole are n connections)

    lines_lifted : (lines : List Item) (alone whole : Scope) (n : ℕ) → AreAligned alone whole → lines_in inside design whole n lines ≡ lifted (lines_in inside design alone n lines)
    lines_lifted [] alone whole n are = refl
    lines_lifted (item ∷ lines) alone whole n are =
        (λ j. steps_lifted alone whole are item j ++ (body_lifted alone whole n item are j ++ lines_lifted lines alone whole (next_number n item) are j))
        ∙ sym (lifted_append (steps_in alone item) (body_in inside design alone n item ++ lines_in inside design alone (next_number n item) lines)
        ∙ ap (λ (zs : List (Step Path)). lifted (steps_in alone item) ++ zs) (lifted_append (body_in inside design alone n item) (lines_in inside design alone (next_number n item) lines)))

  pub walk_lifted : (depth : ℕ) (design : List ModelValue) → BodiesLifted (walk_within depth design)
  walk_lifted zero design alone whole model are = walk_nothing design whole model ∙ sym (ap lifted (walk_nothing design alone model))
  walk_lifted (suc depth) design alone whole model are =
      walk_some depth design whole model
      ∙ (lines_lifted design (walk_within depth design) (walk_lifted depth design) (items_of design model) alone whole 1 are
      ∙ sym (ap lifted (walk_some depth design alone model)))
