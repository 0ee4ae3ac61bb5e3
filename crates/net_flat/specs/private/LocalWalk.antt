-- The walk over what a table of names knows in each instance: for proofs. Source: this project's own.
use Rattle.std.specs.Prelude.{◌≡◌, ◌⊎◌, ℕ, zero, suc, ◌+◌, ◌<◌, nat_le, Bool, true, false, List, [], ◌∷◌, ◌++◌, map, length, codes, Option, Some, is_some, unwrap_or, All, Result, Ok, Err, if◌then◌else◌}
use Rattle.std.specs.Fmt.{decimal}
use Rattle.std.specs.Option.{option_map_or}
use Rattle.lists.specs.Limits.{most_nets}
use Rattle.outcome.specs.Steps.{on_value}
use Rattle.net_core.specs.NetList.{NetList, nets, number_of, with_gate, with_label, with_latch}
use Rattle.net_core.specs.GateValue.{GateValue}
use Rattle.net_core.specs.LatchValue.{LatchValue}
use Rattle.net_core.specs.declared.latch.Start.{Start}
use Rattle.net_core.specs.declared.fault.NetFault.TheVariants as faults
use Rattle.net_blif.specs.Statement.{Token}
use Rattle.net_blif.specs.Connection.{actual_of, formal_of}
use Rattle.net_blif.specs.Table.{no_numbers, with_number, Numbers}
use Rattle.net_blif.specs.Design.{ModelValue, items_of, model_named}
use Rattle.net_blif.specs.declared.item.Item.{Item}
use Rattle.net_blif.specs.declared.item.Item.TheVariants as items
use Rattle.net_flat.specs.Steps.{steps_of, Step, Mention, Input, Output, Gate, Latch, Enter}
use Rattle.net_flat.specs.Walk.{next_number}
use Rattle.net_flat.specs.Flat.{walked_by}
use Rattle.net_flat.specs.declared.flat_fault.FlatFault.{FlatFault}
use Rattle.net_flat.specs.declared.flat_fault.FlatFault.TheVariants.{Net, OutOfMemory, TooManyInstances}

-- what is known of names: in the chosen model by the net list, in an instance by a table, beside the prefix of new labels
pub data Local : Type 0 where
  InTop : Local
  Inside : (prefix : List ℕ) (numbers : Numbers) → Local

-- the net list so far, how many instances were entered, and what is known of names
pub record State : Type 0 where
  pub net : NetList
  pub instances : ℕ
  pub local : Local

abbrev pub state_with : NetList → ℕ → Local → State
state_with net instances local = record { net = net; instances = instances; local = local }

abbrev pub is_in_top : Local → Bool
is_in_top InTop = true
is_in_top (Inside prefix numbers) = false

abbrev pub prefix_in : Local → List ℕ
prefix_in InTop = []
prefix_in (Inside prefix numbers) = prefix

-- the number of a name's net
abbrev pub found_by : NetList → Local → Token → Option ℕ
found_by net InTop name = number_of net name
found_by net (Inside prefix numbers) name = numbers name

abbrev pub found : State → Token → Option ℕ
found state name = found_by state.net state.local name

abbrev pub number_in : State → Token → ℕ
number_in state name = unwrap_or (found state name) 0

-- with a new net of this name
abbrev pub net_with : NetList → Local → Token → NetList
net_with net InTop name = with_label net name true
net_with net (Inside prefix numbers) name = with_label net (prefix ++ name) false

abbrev pub local_with : NetList → Local → Token → Local
local_with net InTop name = InTop
local_with net (Inside prefix numbers) name = Inside prefix (with_number numbers name (nets net))

abbrev pub with_new : State → Token → State
with_new state name = record { net = net_with state.net state.local name; instances = state.instances; local = local_with state.net state.local name }

-- the same names, on another net list
abbrev pub on_net : State → NetList → State
on_net state net = record { net = net; instances = state.instances; local = state.local }

abbrev pub local_gate : State → List Token → Token → ℕ → GateValue
local_gate state inputs out table = record { out = number_in state out; inputs = map (number_in state) inputs; table = table }

abbrev pub local_latch : State → Token → Token → Start → LatchValue
local_latch state next out start = record { next = number_in state next; out = number_in state out; start = start }

-- a step
abbrev pub local_step : State → Step Token → Result State FlatFault
local_step state (Mention name) =
    if is_some (found state name) then Ok state
    else (if nat_le most_nets (nets state.net) then Err (Net faults.TooManyNets)
    else Ok (with_new state name))
local_step state (Input name) = Ok (on_net state (record state.net { inputs = state.net.inputs ++ number_in state name ∷ [] }))
local_step state (Output name) = Ok (on_net state (record state.net { outputs = state.net.outputs ++ number_in state name ∷ [] }))
local_step state (Gate inputs out table) =
    if nat_le most_nets (length state.net.gates + length state.net.latches) then Err (Net faults.TooManyGates)
    else Ok (on_net state (with_gate state.net (local_gate state inputs out table)))
local_step state (Latch next out start) =
    if nat_le most_nets (length state.net.gates + length state.net.latches) then Err (Net faults.TooManyGates)
    else Ok (on_net state (with_latch state.net (local_latch state next out start)))
local_step state Enter =
    if nat_le most_nets state.instances then Err TooManyInstances
    else Ok (record { net = state.net; instances = state.instances + 1; local = state.local })

abbrev pub local_walked : State → List (Step Token) → Result State FlatFault
local_walked state steps = walked_by local_step state steps

-- the numbers of the actuals of connections, by their formals; the first connection of a formal counts
abbrev pub numbers_of : State → List Token → Numbers
numbers_of state [] = no_numbers
numbers_of state (connection ∷ connections) = with_number (numbers_of state connections) (formal_of connection) (number_in state (actual_of connection))

-- in the instance of this number
abbrev pub entered : State → ℕ → List Token → State
entered state number connections =
    record { net = state.net; instances = state.instances; local = Inside (prefix_in state.local ++ (decimal number ++ codes "/")) (numbers_of state connections) }

-- back from an instance: the names are those before
abbrev pub back_to : State → State → Result State FlatFault
back_to state made = Ok (record { net = made.net; instances = made.instances; local = state.local })

abbrev pub local_body : (State → ℕ → Result State FlatFault) → List ModelValue → State → ℕ → Item → Result State FlatFault
local_body inside design state number (items.Instance line model connections) =
    option_map_or (λ m. on_value (back_to state) (inside (entered state number connections) m)) (model_named design model) (Ok state)
local_body inside design state number item = Ok state

-- a line, and then the body of its instance
abbrev pub local_line : (State → ℕ → Result State FlatFault) → List ModelValue → State → ℕ → Item → Result State FlatFault
local_line inside design state number item =
    on_value (λ mentioned. local_body inside design mentioned number item) (local_walked state (steps_of (is_in_top state.local) item))

abbrev pub local_lines : (State → ℕ → Result State FlatFault) → List ModelValue → State → ℕ → List Item → Result State FlatFault
local_lines inside design state number [] = Ok state
local_lines inside design state number (item ∷ lines) =
    on_value (λ more. local_lines inside design more (next_number number item) lines) (local_line inside design state number item)

unfoldable pub local_within : ℕ → List ModelValue → State → ℕ → Result State FlatFault
local_within zero design state model = Ok state
local_within (suc depth) design state model = local_lines (local_within depth design) design state 1 (items_of design model)

-- an instance, and then its body, through at most so many models one inside another
abbrev pub local_instance : ℕ → List ModelValue → State → ℕ → Token → List Token → ℕ → Result State FlatFault
local_instance depth design state number name connections line = local_line (local_within depth design) design state number (items.Instance line name connections)

-- each name has a net
abbrev pub HasEach : State → List Token → Type 0
HasEach state names = All (λ name. (n : ℕ) × (found state name ≡ Some n)) names

-- numbers are those of nets
abbrev pub AreInside : State → Type 0
AreInside state = (name : Token) (n : ℕ) → found state name ≡ Some n → n < nets state.net

-- the fault of a walk, or out of memory
abbrev pub IsFaultOf : Result State FlatFault → FlatFault → Type 0
IsFaultOf walk fault = (fault ≡ OutOfMemory) ⊎ (walk ≡ Err fault)

-- the walk ended with this net list
abbrev pub IsWalked : Result State FlatFault → NetList → Type 0
IsWalked walk net = (state : State) × (walk ≡ Ok state) × (state.net ≡ net)
