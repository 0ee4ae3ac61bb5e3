-- What a line of a model places, by what it says. Source: this project's own.
use Rattle.std.specs.Prelude.{ℕ, Bool, true, false, List, [], ◌∷◌}
use Rattle.net_blif.specs.Latch.{start_of}
use Rattle.net_blif.specs.declared.item.Item.{Item}
use Rattle.net_blif.specs.declared.item.Item.TheVariants as items
use Rattle.net_blif.specs.declared.statement.Statement.{Statement}
use Rattle.net_blif.specs.declared.statement.Statement.TheVariants.{Model, Inputs, Outputs, Cover, Latch, Instance, Row, End, Other}

-- the item that a line of nets, of a latch or of an instance says; any other statement places nothing
abbrev pub items_said : ℕ → Statement → List Item
items_said n (Inputs nets) = items.Inputs nets ∷ []
items_said n (Outputs nets) = items.Outputs nets ∷ []
items_said n (Latch next out rest) = items.Latch n next out (start_of rest) ∷ []
items_said n (Instance model connections) = items.Instance n model connections ∷ []
items_said n s = []

-- a statement that belongs to a model, is no row and begins no cover
abbrev pub is_placed : Statement → Bool
is_placed (Model name) = false
is_placed (Cover inputs out) = false
is_placed (Row pattern output) = false
is_placed End = false
is_placed (Other word rest) = false
is_placed s = true
