-- At most one outcome comes of a module.
use Rattle.std.proofs.Common.{◌≡◌, ℕ, zero, suc, Bool, true, false, List, [], ◌∷◌, Option, None, Some, Result, Err}
use Rattle.outcome.proofs.DeterminedLemmas.{determined_bind, determined_returns}
use Rattle.outcome.specs.Outcome.{Determined, Exactly}
use Rattle.net_core.specs.NetList.{empty}
use Rattle.net_verilog.specs.Tokens.{TokenValue}
use Rattle.net_verilog.specs.Parts.{identifier, is_close, taken}
use Rattle.net_verilog.specs.Assigns.{Reads}
use Rattle.net_verilog.specs.Several.{Either, after_first}
use Rattle.net_verilog.specs.Declarations.{undeclared}
use Rattle.net_verilog.specs.declared.declared.Direction.{Direction}
use Rattle.net_verilog.specs.declared.declared.Direction.TheVariants.{Wire}
use Rattle.net_verilog.specs.declared.sign.Sign.TheVariants as signs
use Rattle.net_verilog.specs.declared.fault.VerilogFault.{VerilogFault}
use Rattle.net_verilog.specs.declared.fault.VerilogFault.TheVariants as faults
use Rattle.net_verilog.proofs.SeveralLemmas.{bind_same, exactly_same, several_determined}
use Rattle.net_verilog.proofs.StatementDetermined.{assignment_determined}
use Rattle.verilog_reader.specs.Items.{Item, Items, ItemsOf, ReadsItem, State, declared_range, endmodule_first, item_fault, item_start}
use Rattle.verilog_reader.specs.Modules.{DeclaredPorts, Head, Module, PlainPort, PlainPorts, PortList, PortsAfter, PortsFrom, ReadsPort, head_of, module_taken, nothing_more, open_first, port_direction}
use Rattle.verilog_reader.specs.declared.starts.ItemStart.{ItemStart}
use Rattle.verilog_reader.specs.declared.starts.ItemStart.TheVariants as items
use Rattle.verilog_reader.proofs.ReadDetermined.{instances_determined, name_determined, names_determined}

-- ---- items

start_determined : (start : ItemStart) (state : State) (t : TokenValue) (ts : List TokenValue) → Determined (ReadsItem start state t ts)
start_determined (items.Declaration direction) state t ts =
    determined_bind _ _ (determined_returns (declared_range direction ts)) (λ ranged.
    determined_bind _ _ (names_determined ranged.0 direction state ranged.1) (λ names.
    determined_bind _ _ (determined_returns (taken signs.Semicolon names.1)) (λ end.
    exactly_same (names.0, end.1))))
start_determined items.Assignments state t ts =
    determined_bind _ _ (assignment_determined state.0 state.1 ts) (λ net.
    determined_bind _ _ (determined_returns (taken signs.Semicolon net.1)) (λ end.
    exactly_same ((state.0, net.0), end.1)))
start_determined (items.Instances kind) state t ts =
    determined_bind _ _ (instances_determined state.0 kind state.1 ts) (λ net.
    determined_bind _ _ (determined_returns (taken signs.Semicolon net.1)) (λ end.
    exactly_same ((state.0, net.0), end.1)))
start_determined items.Other state t ts = determined_returns (Err (item_fault t))

pub item_determined : (state : State) (tokens : List TokenValue) → Determined (Item state tokens)
item_determined state [] = determined_returns (Err (faults.Syntax 0))
item_determined state (t ∷ ts) = start_determined (item_start t) state t ts

-- one of two by a test, of which the first is a value
first_same : {A : Type 0} (b : Bool) (a : A × List TokenValue) (p q : Reads A) → ((x y : Result (A × List TokenValue) VerilogFault) → p x → q y → x ≡ y) → (x y : Result (A × List TokenValue) VerilogFault) → Either b (Exactly a) p x → Either b (Exactly a) q y → x ≡ y
first_same true a p q same x y h k = exactly_same a x y h k
first_same false a p q same x y h k = same x y h k

items_same : (n m : ℕ) (state : State) (tokens : List TokenValue) (x y : Result (State × List TokenValue) VerilogFault) → ItemsOf n state tokens x → ItemsOf m state tokens y → x ≡ y
items_same zero m state tokens x y h k = absurd h
items_same (suc n) zero state tokens x y h k = absurd k
items_same (suc n) (suc m) state tokens x y h k =
    first_same (endmodule_first tokens) (state, after_first tokens) _ _
    (λ x y. bind_same (Item state tokens) (λ next. ItemsOf n next.0 next.1) (λ next. ItemsOf m next.0 next.1) (item_determined state tokens) (λ next x y. items_same n m next.0 next.1 x y) x y)
    x
    y
    h
    k

pub items_determined : (state : State) (tokens : List TokenValue) → Determined (Items state tokens)
items_determined state tokens x y h k = items_same h.0 k.0 state tokens x y h.1 k.1

-- ---- ports

either_determined : {A : Type 0} (b : Bool) (p q : Reads A) → Determined p → Determined q → Determined (Either b p q)
either_determined true p q one two = one
either_determined false p q one two = two

port_determined : (state : Head × State) (tokens : List TokenValue) → Determined (ReadsPort state tokens)
port_determined state tokens =
    determined_bind _ _ (determined_returns (head_of state.0 tokens)) (λ head.
    determined_bind _ _ (name_determined head.0.1 head.0.0 state.1 head.1) (λ named.
    exactly_same ((head.0, named.0), named.1)))

declared_determined : (state : State) (tokens : List TokenValue) → Determined (DeclaredPorts state tokens)
declared_determined state tokens =
    determined_bind _ _ (several_determined ReadsPort port_determined ((Wire, None), state) tokens) (λ ports.
    determined_bind _ _ (determined_returns (taken signs.Close ports.1)) (λ right.
    exactly_same (ports.0.1, right.1)))

plain_determined : (state : State) (tokens : List TokenValue) → Determined (PlainPort state tokens)
plain_determined state tokens = determined_bind _ _ (determined_returns (identifier tokens)) (λ name. exactly_same (state, name.1))

plains_determined : (state : State) (tokens : List TokenValue) → Determined (PlainPorts state tokens)
plains_determined state tokens =
    determined_bind _ _ (several_determined PlainPort plain_determined state tokens) (λ names.
    determined_bind _ _ (determined_returns (taken signs.Close names.1)) (λ right.
    exactly_same (names.0, right.1)))

from_determined : (start : Option Direction) (state : State) (tokens : List TokenValue) → Determined (PortsFrom start state tokens)
from_determined None state tokens = plains_determined state tokens
from_determined (Some direction) state tokens = declared_determined state tokens

after_determined : (state : State) (tokens : List TokenValue) → Determined (PortsAfter state tokens)
after_determined state [] = determined_returns (Err (faults.Syntax 0))
after_determined state (t ∷ ts) = either_determined (is_close t.kind) _ _ (exactly_same (state, ts)) (from_determined (port_direction (item_start t)) state (t ∷ ts))

pub ports_determined : (state : State) (tokens : List TokenValue) → Determined (PortList state tokens)
ports_determined state tokens = either_determined (open_first tokens) _ _ (after_determined state (after_first tokens)) (exactly_same (state, tokens))

-- ---- the module

pub module_determined : (tokens : List TokenValue) → Determined (Module tokens)
module_determined tokens =
    determined_bind _ _ (determined_returns (module_taken tokens)) (λ begun.
    determined_bind _ _ (determined_returns (identifier begun)) (λ name.
    determined_bind _ _ (ports_determined (undeclared, empty) name.1) (λ ports.
    determined_bind _ _ (determined_returns (taken signs.Semicolon ports.1)) (λ sign.
    determined_bind _ _ (items_determined ports.0 sign.1) (λ items.
    determined_returns (nothing_more items.0.1 items.1))))))
