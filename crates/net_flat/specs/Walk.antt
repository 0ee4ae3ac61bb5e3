-- The walk over the lines of a model and through its instances. Source: the Berkeley Logic Interchange Format (BLIF), University of California, Berkeley.
use Rattle.std.specs.Prelude.{ℕ, zero, suc, ◌+◌, Bool, true, false, List, [], ◌∷◌, ◌++◌, map}
use Rattle.std.specs.Option.{option_map_or}
use Rattle.net_blif.specs.Design.{ModelValue, items_of, model_named}
use Rattle.net_blif.specs.declared.item.Item.{Item}
use Rattle.net_blif.specs.declared.item.Item.TheVariants as items
use Rattle.net_flat.specs.Paths.{inner, path_in, top, Path, Scope}
use Rattle.net_flat.specs.Steps.{along, steps_of, Step}

-- in the chosen model, and in no instance
abbrev pub is_top : List ℕ → Bool
is_top [] = true
is_top (number ∷ numbers) = false

-- what a line does in a scope
abbrev pub steps_in : Scope → Item → List (Step Path)
steps_in scope item = map (along (path_in scope)) (steps_of (is_top scope.trail) item)

-- after an instance of this number comes the next number
abbrev pub next_number : ℕ → Item → ℕ
next_number number (items.Instance line model connections) = number + 1
next_number number item = number

-- the body of an instance's model, walked in place
abbrev pub body_in : (Scope → ℕ → List (Step Path)) → List ModelValue → Scope → ℕ → Item → List (Step Path)
body_in inside design scope number (items.Instance line model connections) = option_map_or (inside (inner scope number connections)) (model_named design model) []
body_in inside design scope number item = []

-- line by line: what it does, and then the body of its instance
abbrev pub lines_in : (Scope → ℕ → List (Step Path)) → List ModelValue → Scope → ℕ → List Item → List (Step Path)
lines_in inside design scope number [] = []
lines_in inside design scope number (item ∷ lines) = steps_in scope item ++ (body_in inside design scope number item ++ lines_in inside design scope (next_number number item) lines)

-- the walk over a model, through at most so many models one inside another; instances are numbered from 1
unfoldable pub walk_within : ℕ → List ModelValue → Scope → ℕ → List (Step Path)
walk_within zero design scope model = []
walk_within (suc depth) design scope model = lines_in (walk_within depth design) design scope 1 (items_of design model)

-- the walk over the chosen model: no chain of instances of a design has more than 64 models
abbrev pub walk_of : List ModelValue → ℕ → List (Step Path)
walk_of design model = walk_within 64 design top model
