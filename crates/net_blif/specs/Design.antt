-- What a text in BLIF describes: its models, in order. Source: the Berkeley Logic Interchange Format (BLIF), University of California, Berkeley.
use Rattle.std.specs.Prelude.{ℕ, ◌+◌, List, [], ◌∷◌, Option, None, Some, slice_get, if◌then◌else◌}
use Rattle.std.specs.Option.{option_map_or}
use Rattle.std.specs.Str.{bytes_eq}
use Rattle.net_blif.specs.Statement.{Token}
use Rattle.net_blif.specs.declared.item.Item.{Item}

-- a model: its name, and what its lines place, in order
pub record ModelValue : Type 0 where
  pub name : Token
  pub items : List Item

-- the first model of this name, where they are numbered from n
abbrev pub model_from : ℕ → List ModelValue → Token → Option ℕ
model_from n [] name = None
model_from n (model ∷ models) name = if bytes_eq name model.name then Some n else model_from (n + 1) models name

-- the number of the model of this name
abbrev pub model_named : List ModelValue → Token → Option ℕ
model_named models name = model_from 0 models name

-- what the lines of a model place; a model that does not exist places nothing
abbrev pub items_of : List ModelValue → ℕ → List Item
items_of models model = option_map_or (λ (m : ModelValue). m.items) (slice_get models model) []

-- the name of a model; one that does not exist has none
abbrev pub name_of : List ModelValue → ℕ → Token
name_of models model = option_map_or (λ (m : ModelValue). m.name) (slice_get models model) []
