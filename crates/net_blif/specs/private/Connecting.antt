-- Connections looked up in tables, name by name. Source: this project's own.
use Rattle.std.specs.Prelude.{◌≡◌, ◌⊎◌, ℕ, Bool, not, List, [], ◌∷◌, ◌++◌, Option, None, Some, is_some, if◌then◌else◌}
use Rattle.std.specs.List.{list_all}
use Rattle.net_blif.specs.Connection.{formal_of}
use Rattle.net_blif.specs.Statement.{Token}
use Rattle.net_blif.specs.Table.{no_numbers, numbers_in, with_number, Numbers}
use Rattle.net_blif.specs.Instances.{inputs_in, or_else, outputs_in}
use Rattle.net_blif.specs.declared.item.Item.{Item}
use Rattle.net_blif.specs.declared.formal_set.Formals.{Formals}
use Rattle.net_blif.specs.declared.fault.BlifFault.{BlifFault}
use Rattle.net_blif.specs.declared.fault.BlifFault.TheVariants.{NoSuchFormal, FormalTwice, FormalMissing, OutOfMemory}

-- the formals of a model: which there are, and its inputs, each once
pub record FormalsValue : Type 0 where
  pub names : Numbers
  pub inputs : List Token

abbrev pub formals_in : Formals → FormalsValue
formals_in formals = record { names = numbers_in formals.names; inputs = formals.inputs }

abbrev pub no_formals : FormalsValue
no_formals = record { names = no_numbers; inputs = [] }

-- one value after another
abbrev pub after : {A B : Type 0} → (A → B → A) → A → List B → A
after f a [] = a
after f a (x ∷ xs) = after f (f a x) xs

-- one more input, unless it is one
abbrev pub with_input : FormalsValue → Token → FormalsValue
with_input formals name =
    if is_some (formals.names name) then formals
    else record { names = with_number formals.names name 0; inputs = formals.inputs ++ name ∷ [] }

abbrev pub with_output : FormalsValue → Token → FormalsValue
with_output formals name = record { names = with_number formals.names name 0; inputs = formals.inputs }

-- what an item adds
abbrev pub with_inputs_in : FormalsValue → Item → FormalsValue
with_inputs_in formals item = after with_input formals (inputs_in item)

abbrev pub with_outputs_in : FormalsValue → Item → FormalsValue
with_outputs_in formals item = after with_output formals (outputs_in item)

-- the formals of what the lines of a model place
abbrev pub collected : List Item → FormalsValue
collected items = after with_outputs_in (after with_inputs_in no_formals items) items

-- what is wrong with one connection, where these are connected
abbrev pub formal_fault : ℕ → Numbers → Numbers → Token → Option BlifFault
formal_fault line formals connected formal =
    if not (is_some (formals formal)) then Some (NoSuchFormal line)
    else (if is_some (connected formal) then Some (FormalTwice line) else None)

abbrev pub table_fault : ℕ → Numbers → Numbers → List Token → Option BlifFault
table_fault line formals connected [] = None
table_fault line formals connected (connection ∷ connections) =
    or_else (formal_fault line formals connected (formal_of connection))
    (table_fault line formals (with_number connected (formal_of connection) 0) connections)

-- what is connected
abbrev pub connect : Numbers → Token → Numbers
connect connected connection = with_number connected (formal_of connection) 0

abbrev pub has_all : Numbers → List Token → Bool
has_all connected inputs = list_all (λ input. is_some (connected input)) inputs

-- what is wrong with an instance of a model with these formals
abbrev pub missing : ℕ → Numbers → List Token → Option BlifFault
missing line connected inputs = if has_all connected inputs then None else Some (FormalMissing line)

abbrev pub fault_by : ℕ → FormalsValue → List Token → Option BlifFault
fault_by line formals connections =
    or_else (table_fault line formals.names no_numbers connections) (missing line (after connect no_numbers connections) formals.inputs)

-- these, or out of memory
abbrev pub IsFault : Option BlifFault → BlifFault → Type 0
IsFault fault found = (found ≡ OutOfMemory) ⊎ (fault ≡ Some found)
