-- The lines of all models with each port once. Source: this project's own.
use Rattle.std.specs.Prelude.{◌≡◌, ◌⊎◌, List, [], map}
use Rattle.net_blif.specs.Design.{ModelValue}
use Rattle.net_blif.specs.Ports.{ports_once}
use Rattle.net_blif.specs.declared.item.Item.{Item}

-- the lines of a model with each port once
abbrev pub body_of : ModelValue → List Item
body_of model = ports_once model.items

-- those of each model, or none
abbrev pub AreBodies : List ModelValue → List (List Item) → Type 0
AreBodies models bodies = (bodies ≡ []) ⊎ (bodies ≡ map body_of models)
