-- What stands in the top. Source: the Berkeley Logic Interchange Format (BLIF), University of California, Berkeley.
use Rattle.std.specs.Prelude.{ℕ, Bool, true, false, List, [], Option, None, Some, filter, if◌then◌else◌}
use Rattle.std.specs.Str.{bytes_eq}
use Rattle.net_blif.specs.Connection.{actual_of, formal_of}
use Rattle.net_blif.specs.Statement.{Token}
use Rattle.net_blif.specs.Design.{ModelValue, items_of}
use Rattle.net_blif.specs.Instances.{first_found}
use Rattle.net_blif.specs.declared.item.Item.{Item}
use Rattle.net_blif.specs.declared.item.Item.TheVariants.{Gate, Latch, Instance}

-- the line of a gate or latch
abbrev pub line_in : Item → Option ℕ
line_in (Gate line inputs out table) = Some line
line_in (Latch line next out start) = Some line
line_in item = None

-- the line of the first gate or latch of the top
abbrev pub gate_line : List ModelValue → Option ℕ
gate_line models = first_found line_in (items_of models 0)

abbrev pub is_instance : Item → Bool
is_instance (Instance line model connections) = true
is_instance item = false

-- the instances of the top, in order of the lines
abbrev pub instances_of : List ModelValue → List Item
instances_of models = filter is_instance (items_of models 0)

-- the name of the model of an instance
abbrev pub model_in : Item → Token
model_in (Instance line model connections) = model
model_in item = []

-- the connections of an instance
abbrev pub connections_in : Item → List Token
connections_in (Instance line model connections) = connections
connections_in item = []

-- the actual of a connection that has this formal
abbrev pub actual_at : Token → Token → Option Token
actual_at formal connection = if bytes_eq (formal_of connection) formal then Some (actual_of connection) else None

-- what an instance connects to a formal, if it connects it
abbrev pub actual_in : Item → Token → Option Token
actual_in item formal = first_found (actual_at formal) (connections_in item)
