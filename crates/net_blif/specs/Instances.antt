-- What is wrong with an instance. Source: the Berkeley Logic Interchange Format (BLIF), University of California, Berkeley.
use Rattle.std.specs.Prelude.{ℕ, Bool, not, List, [], ◌∷◌, ◌++◌, map, flat_map, Option, None, Some, Result, Ok, Err, if◌then◌else◌}
use Rattle.std.specs.List.{list_any, list_all}
use Rattle.std.specs.Str.{bytes_eq}
use Rattle.outcome.specs.Outcome.{Outcome, Returns}
use Rattle.net_blif.specs.Connection.{formal_of}
use Rattle.net_blif.specs.Statement.{Token}
use Rattle.net_blif.specs.Design.{ModelValue, items_of, model_named}
use Rattle.net_blif.specs.declared.item.Item.{Item}
use Rattle.net_blif.specs.declared.item.Item.TheVariants.{Inputs, Outputs, Instance}
use Rattle.net_blif.specs.declared.fault.BlifFault.{BlifFault}
use Rattle.net_blif.specs.declared.fault.BlifFault.TheVariants.{NoSuchModel, NoSuchFormal, FormalTwice, FormalMissing}

-- a name is one of these
abbrev pub is_among : List Token → Token → Bool
is_among names name = list_any (λ other. bytes_eq other name) names

abbrev pub inputs_in : Item → List Token
inputs_in (Inputs nets) = nets
inputs_in item = []

abbrev pub outputs_in : Item → List Token
outputs_in (Outputs nets) = nets
outputs_in item = []

-- the formals of a model that have to be connected
abbrev pub inputs_of : List Item → List Token
inputs_of items = flat_map inputs_in items

abbrev pub outputs_of : List Item → List Token
outputs_of items = flat_map outputs_in items

-- the formals of a model
abbrev pub formals_of : List Item → List Token
formals_of items = inputs_of items ++ outputs_of items

-- the first, where there is one, and else the other
abbrev pub or_else : {F : Type 0} → Option F → Option F → Option F
or_else (Some found) other = Some found
or_else None other = other

-- what is found first in a list
abbrev pub first_found : {F A : Type 0} → (A → Option F) → List A → Option F
first_found find [] = None
first_found find (x ∷ xs) = or_else (find x) (first_found find xs)

-- From left to right: a connection's formal is one of the model's, and no earlier connection has it.
abbrev pub connection_fault : ℕ → List Token → List Token → List Token → Option BlifFault
connection_fault line formals earlier [] = None
connection_fault line formals earlier (connection ∷ connections) =
    if not (is_among formals (formal_of connection)) then Some (NoSuchFormal line)
    else (if is_among earlier (formal_of connection) then Some (FormalTwice line)
    else connection_fault line formals (earlier ++ formal_of connection ∷ []) connections)

-- each input of the model is connected
abbrev pub missing_fault : ℕ → List Token → List Token → Option BlifFault
missing_fault line inputs connected = if list_all (λ input. is_among connected input) inputs then None else Some (FormalMissing line)

-- what is wrong with an instance of a model that places these
abbrev pub fault_on : ℕ → List Item → List Token → Option BlifFault
fault_on line items connections = or_else (connection_fault line (formals_of items) [] connections) (missing_fault line (inputs_of items) (map formal_of connections))

-- what is wrong with an instance of the model of this number, if there is one
abbrev pub model_fault : List ModelValue → ℕ → Option ℕ → List Token → Option BlifFault
model_fault models line None connections = Some (NoSuchModel line)
model_fault models line (Some model) connections = fault_on line (items_of models model) connections

-- what is wrong with what a line places
abbrev pub instance_fault : List ModelValue → Item → Option BlifFault
instance_fault models (Instance line name connections) = model_fault models line (model_named models name) connections
instance_fault models item = None

-- the first that is wrong, in order of the lines
abbrev pub instances_fault : List ModelValue → Option BlifFault
instances_fault models = first_found (λ (m : ModelValue). first_found (instance_fault models) m.items) models

-- a fault, where there is one
abbrev pub refused : {F : Type 0} → Option F → Result (Unit {0}) F
refused None = Ok tt
refused (Some fault) = Err fault

-- instances are of models that there are, with the formals that these have
abbrev pub HaveFormals : List ModelValue → Outcome BlifFault (Unit {0})
HaveFormals models = Returns (refused (instances_fault models))
