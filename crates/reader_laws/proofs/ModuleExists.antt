-- Of tokens in structural Verilog there is a module or a fault.
use Rattle.std.proofs.Common.{◌≡◌, sym, refl, ap, ℕ, zero, suc, ◌<◌, ◌≤◌, Bool, true, false, cond, List, [], ◌∷◌, length, Option, None, Some, Result, Ok, Err, arith}
use Rattle.outcome.proofs.SomeLemmas.{some_bind, some_exactly, some_returns}
use Rattle.outcome.specs.Outcome.{◌>>=◌, Exactly}
use Rattle.outcome.specs.Steps.{on_value}
use Rattle.net_core.specs.NetList.{NetList, empty}
use Rattle.net_verilog.specs.Tokens.{TokenValue}
use Rattle.net_verilog.specs.Targets.{Answer}
use Rattle.net_verilog.specs.Parts.{identifier, is_close, range, taken}
use Rattle.net_verilog.specs.Assigns.{Assigns, Reads, net_fault}
use Rattle.net_verilog.specs.Several.{Either, after_first}
use Rattle.net_verilog.specs.Instances.{ReadsInstance}
use Rattle.net_verilog.specs.Declarations.{Range, undeclared}
use Rattle.net_verilog.specs.declared.declared.Direction.{Direction}
use Rattle.net_verilog.specs.declared.declared.Direction.TheVariants.{Input, Output, Wire}
use Rattle.net_verilog.specs.declared.sign.Sign.TheVariants as signs
use Rattle.net_verilog.specs.declared.fault.VerilogFault.{VerilogFault}
use Rattle.net_verilog.specs.declared.fault.VerilogFault.TheVariants as faults
use Rattle.net_verilog.proofs.ExistsLemmas.{LeavesNoMore, assigns_leaves, instance_leaves, several_leaves, some_assigns, some_instance, some_several}
use Rattle.net_verilog.proofs.LeavesLemmas.{identifier_shorter, left_by, range_leaves, taken_shorter}
use Rattle.verilog_reader.specs.Declares.{ReadsName, ported}
use Rattle.verilog_reader.specs.Items.{Item, Items, ItemsOf, ReadsItem, State, after_wire, declared_range, endmodule_first, is_wire, item_fault, item_start}
use Rattle.verilog_reader.specs.Modules.{DeclaredPorts, Head, Module, PlainPort, PlainPorts, PortList, PortsAfter, PortsFrom, ReadsPort, head_of, module_taken, nothing_more, open_first, port_direction, port_head}
use Rattle.verilog_reader.specs.declared.starts.ItemStart.{ItemStart}
use Rattle.verilog_reader.specs.declared.starts.ItemStart.TheVariants as items
use Rattle.reader_laws.proofs.DeclareExists.{some_declares}

-- what is read of tokens, or a fault
abbrev SomeRead : {A : Type 0} → Reads A → Type 0
SomeRead {A} reads = (outcome : Result (A × List TokenValue) VerilogFault) × reads outcome

-- ---- names of a declaration

some_name : (range : Range) (direction : Direction) (state : State) (tokens : List TokenValue) → SomeRead (ReadsName range direction state tokens)
some_name range direction state tokens =
    some_bind _ _ (some_returns (identifier tokens)) (λ name one.
    some_bind _ _ (some_declares state.0 range direction name.0) (λ declared two.
    some_bind _ _ (some_returns (net_fault (ported direction state.1 name.0.1 range))) (λ net three.
    some_exactly ((declared, net), name.1))))

name_leaves : (range : Range) (direction : Direction) → LeavesNoMore (ReadsName range direction)
name_leaves range direction state tokens found (name, one, (declared, two, (net, three, is))) =
    let less : length name.1 < length tokens = identifier_shorter tokens name (sym one) in
    let same : length found.1 ≡ length name.1 = ap (λ (p : State × List TokenValue). length p.1) is in
    omega (arith, less, same)

-- ---- ranges

wire_shorter : (tokens : List TokenValue) → length (after_wire tokens) ≤ length tokens
wire_shorter [] = omega arith
wire_shorter (t ∷ ts) = by (is_wire t)
  where
    by : (b : Bool) → length (cond b ts (t ∷ ts)) ≤ suc (length ts)
    by true = omega arith
    by false = omega arith

after_wire_leaves : (tokens : List TokenValue) (p : Range × List TokenValue) → range (after_wire tokens) ≡ Ok p → length p.1 ≤ length tokens
after_wire_leaves tokens p is =
    let few : length p.1 ≤ length (after_wire tokens) = left_by (length (after_wire tokens)) (range (after_wire tokens)) p is (range_leaves (after_wire tokens)) in
    omega (arith, few, wire_shorter tokens)

ranged_leaves : (direction : Direction) (tokens : List TokenValue) (p : Range × List TokenValue) → declared_range direction tokens ≡ Ok p → length p.1 ≤ length tokens
ranged_leaves Wire tokens p is = left_by (length tokens) (range tokens) p is (range_leaves tokens)
ranged_leaves Input tokens p is = after_wire_leaves tokens p is
ranged_leaves Output tokens p is = after_wire_leaves tokens p is

-- ---- items

start_some : (start : ItemStart) (state : State) (t : TokenValue) (ts : List TokenValue) → SomeRead (ReadsItem start state t ts)
start_some (items.Declaration direction) state t ts =
    some_bind _ _ (some_returns (declared_range direction ts)) (λ ranged one.
    some_bind _ _ (some_several (ReadsName ranged.0 direction) (name_leaves ranged.0 direction) (some_name ranged.0 direction) state ranged.1) (λ names two.
    some_bind _ _ (some_returns (taken signs.Semicolon names.1)) (λ end three.
    some_exactly (names.0, end.1))))
start_some items.Assignments state t ts =
    some_bind _ _ (some_several (Assigns state.0) (assigns_leaves state.0) (some_assigns state.0) state.1 ts) (λ net one.
    some_bind _ _ (some_returns (taken signs.Semicolon net.1)) (λ end two.
    some_exactly ((state.0, net.0), end.1)))
start_some (items.Instances kind) state t ts =
    some_bind _ _ (some_several (ReadsInstance state.0 kind) (instance_leaves state.0 kind) (some_instance state.0 kind) state.1 ts) (λ net one.
    some_bind _ _ (some_returns (taken signs.Semicolon net.1)) (λ end two.
    some_exactly ((state.0, net.0), end.1)))
start_some items.Other state t ts = some_returns (Err (item_fault t))

some_item : (state : State) (tokens : List TokenValue) → SomeRead (Item state tokens)
some_item state [] = some_returns (Err (faults.Syntax 0))
some_item state (t ∷ ts) = start_some (item_start t) state t ts

start_shorter : (start : ItemStart) (state : State) (t : TokenValue) (ts : List TokenValue) (found : State × List TokenValue) → ReadsItem start state t ts (Ok found) → length found.1 < suc (length ts)
start_shorter (items.Declaration direction) state t ts found (ranged, one, (names, two, (end, three, is))) =
    let a : length ranged.1 ≤ length ts = ranged_leaves direction ts ranged (sym one) in
    let b : length names.1 ≤ length ranged.1 = several_leaves (ReadsName ranged.0 direction) (name_leaves ranged.0 direction) state ranged.1 names two in
    let c : length end.1 < length names.1 = taken_shorter signs.Semicolon names.1 end (sym three) in
    let same : length found.1 ≡ length end.1 = ap (λ (p : State × List TokenValue). length p.1) is in
    omega (arith, a, b, c, same)
start_shorter items.Assignments state t ts found (net, one, (end, two, is)) =
    let a : length net.1 ≤ length ts = several_leaves (Assigns state.0) (assigns_leaves state.0) state.1 ts net one in
    let b : length end.1 < length net.1 = taken_shorter signs.Semicolon net.1 end (sym two) in
    let same : length found.1 ≡ length end.1 = ap (λ (p : State × List TokenValue). length p.1) is in
    omega (arith, a, b, same)
start_shorter (items.Instances kind) state t ts found (net, one, (end, two, is)) =
    let a : length net.1 ≤ length ts = several_leaves (ReadsInstance state.0 kind) (instance_leaves state.0 kind) state.1 ts net one in
    let b : length end.1 < length net.1 = taken_shorter signs.Semicolon net.1 end (sym two) in
    let same : length found.1 ≡ length end.1 = ap (λ (p : State × List TokenValue). length p.1) is in
    omega (arith, a, b, same)
start_shorter items.Other state t ts found is = absurd (cc)

item_shorter : (state : State) (tokens : List TokenValue) (found : State × List TokenValue) → Item state tokens (Ok found) → length found.1 < length tokens
item_shorter state [] found is = absurd (cc)
item_shorter state (t ∷ ts) found is = start_shorter (item_start t) state t ts found is

-- one of two, as a test tells
some_either : {A : Type 0} (b : Bool) (one other : Reads A) → SomeRead one → SomeRead other → SomeRead (Either b one other)
some_either true one other first second = first
some_either false one other first second = second

-- each item takes a token at least
items_below : (n : ℕ) (state : State) (tokens : List TokenValue) → length tokens < n → SomeRead (ItemsOf n state tokens)
items_below zero state tokens low = absurd (omega (arith, low))
items_below (suc n) state tokens low =
    some_either (endmodule_first tokens) (Exactly (state, after_first tokens)) (Item state tokens >>= (λ next. ItemsOf n next.0 next.1)) (some_exactly (state, after_first tokens))
    (some_bind (Item state tokens) (λ next. ItemsOf n next.0 next.1) (some_item state tokens) (λ next is. let less : length next.1 < length tokens = item_shorter state tokens next is in items_below n next.0 next.1 (omega (arith, less, low))))

some_items : (state : State) (tokens : List TokenValue) → SomeRead (Items state tokens)
some_items state tokens = let found = items_below (suc (length tokens)) state tokens (omega arith) in (found.0, (suc (length tokens), found.1))

-- ---- ports

some_port : (state : Head × State) (tokens : List TokenValue) → SomeRead (ReadsPort state tokens)
some_port state tokens =
    some_bind _ _ (some_returns (head_of state.0 tokens)) (λ head one.
    some_bind _ _ (some_name head.0.1 head.0.0 state.1 head.1) (λ named two.
    some_exactly ((head.0, named.0), named.1)))

value_leaves : (direction : Direction) (ts : List TokenValue) (answer : Answer Range) (p : Head × List TokenValue) → range (after_wire ts) ≡ answer → on_value (λ (r : Range × List TokenValue). Ok ((direction, r.0), r.1)) answer ≡ Ok p → length p.1 ≤ length ts
value_leaves direction ts (Ok r) p found is =
    let most : length r.1 ≤ length ts = after_wire_leaves ts r found in
    let same : ((direction, r.0), r.1) ≡ p = cc in
    let long : length r.1 ≡ length p.1 = ap (λ (q : Head × List TokenValue). length q.1) same in
    omega (arith, most, long)
value_leaves direction ts (Err fault) p found is = absurd (cc)

port_head_leaves : (before : Head) (start : Option Direction) (t : TokenValue) (ts : List TokenValue) (p : Head × List TokenValue) → port_head before start t ts ≡ Ok p → length p.1 ≤ suc (length ts)
port_head_leaves before None t ts p is =
    let same : (before, t ∷ ts) ≡ p = cc in
    let long : suc (length ts) ≡ length p.1 = ap (λ (q : Head × List TokenValue). length q.1) same in
    omega (arith, long)
port_head_leaves before (Some direction) t ts p is = let most : length p.1 ≤ length ts = value_leaves direction ts (range (after_wire ts)) p refl is in omega (arith, most)

head_leaves : (before : Head) (tokens : List TokenValue) (p : Head × List TokenValue) → head_of before tokens ≡ Ok p → length p.1 ≤ length tokens
head_leaves before [] p is =
    let same : (before, []) ≡ p = cc in
    let long : 0 ≡ length p.1 = ap (λ (q : Head × List TokenValue). length q.1) same in
    omega (arith, long)
head_leaves before (t ∷ ts) p is = port_head_leaves before (port_direction (item_start t)) t ts p is

port_leaves : LeavesNoMore ReadsPort
port_leaves state tokens found (head, one, (named, two, is)) =
    let a : length head.1 ≤ length tokens = head_leaves state.0 tokens head (sym one) in
    let b : length named.1 ≤ length head.1 = name_leaves head.0.1 head.0.0 state.1 head.1 named two in
    let same : length found.1 ≡ length named.1 = ap (λ (p : (Head × State) × List TokenValue). length p.1) is in
    omega (arith, a, b, same)

some_declared : (state : State) (tokens : List TokenValue) → SomeRead (DeclaredPorts state tokens)
some_declared state tokens =
    some_bind _ _ (some_several ReadsPort port_leaves some_port ((Wire, None), state) tokens) (λ ports one.
    some_bind _ _ (some_returns (taken signs.Close ports.1)) (λ right two.
    some_exactly (ports.0.1, right.1)))

some_plain : (state : State) (tokens : List TokenValue) → SomeRead (PlainPort state tokens)
some_plain state tokens = some_bind _ _ (some_returns (identifier tokens)) (λ name one. some_exactly (state, name.1))

plain_leaves : LeavesNoMore PlainPort
plain_leaves state tokens found (name, one, is) =
    let less : length name.1 < length tokens = identifier_shorter tokens name (sym one) in
    let same : length found.1 ≡ length name.1 = ap (λ (p : State × List TokenValue). length p.1) is in
    omega (arith, less, same)

some_plains : (state : State) (tokens : List TokenValue) → SomeRead (PlainPorts state tokens)
some_plains state tokens =
    some_bind _ _ (some_several PlainPort plain_leaves some_plain state tokens) (λ names one.
    some_bind _ _ (some_returns (taken signs.Close names.1)) (λ right two.
    some_exactly (names.0, right.1)))

some_from : (start : Option Direction) (state : State) (tokens : List TokenValue) → SomeRead (PortsFrom start state tokens)
some_from None state tokens = some_plains state tokens
some_from (Some direction) state tokens = some_declared state tokens

some_after : (state : State) (tokens : List TokenValue) → SomeRead (PortsAfter state tokens)
some_after state [] = some_returns (Err (faults.Syntax 0))
some_after state (t ∷ ts) = some_either (is_close t.kind) (Exactly (state, ts)) (PortsFrom (port_direction (item_start t)) state (t ∷ ts)) (some_exactly (state, ts)) (some_from (port_direction (item_start t)) state (t ∷ ts))

some_ports : (state : State) (tokens : List TokenValue) → SomeRead (PortList state tokens)
some_ports state tokens = some_either (open_first tokens) (PortsAfter state (after_first tokens)) (Exactly (state, tokens)) (some_after state (after_first tokens)) (some_exactly (state, tokens))

-- ---- the module

pub some_module : (tokens : List TokenValue) → (outcome : Result NetList VerilogFault) × Module tokens outcome
some_module tokens =
    some_bind _ _ (some_returns (module_taken tokens)) (λ begun one.
    some_bind _ _ (some_returns (identifier begun)) (λ name two.
    some_bind _ _ (some_ports (undeclared, empty) name.1) (λ ports three.
    some_bind _ _ (some_returns (taken signs.Semicolon ports.1)) (λ sign four.
    some_bind _ _ (some_items ports.0 sign.1) (λ whole five.
    some_returns (nothing_more whole.0.1 whole.1))))))
