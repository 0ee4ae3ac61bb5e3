-- Modules: the list of ports, the items, and what may stand around. Source: IEEE Std 1364-2005, annex A.1.2 and A.1.3, in the profile
-- of docs/FORMATS.md.
use Rattle.std.specs.Prelude.{ℕ, Bool, false, List, [], ◌∷◌, Option, None, Some, Result, Ok, Err, if◌then◌else◌}
use Rattle.outcome.specs.Outcome.{Outcome, ◌>>=◌, Exactly, Returns, Within}
use Rattle.outcome.specs.Steps.{on_value}
use Rattle.net_core.specs.NetList.{NetList, empty}
use Rattle.net_core.specs.Finish.{Settles}
use Rattle.net_verilog.specs.Tokens.{TokenValue, is_end, tokens_of}
use Rattle.net_verilog.specs.Words.{wrong}
use Rattle.net_verilog.specs.Targets.{Answer}
use Rattle.net_verilog.specs.Parts.{identifier, is_close, is_open, range, taken}
use Rattle.net_verilog.specs.Assigns.{Reads}
use Rattle.net_verilog.specs.Several.{Either, Several, after_first}
use Rattle.net_verilog.specs.Declarations.{Range, undeclared}
use Rattle.net_verilog.specs.declared.declared.Direction.{Direction}
use Rattle.net_verilog.specs.declared.declared.Direction.TheVariants.{Input, Output, Wire}
use Rattle.net_verilog.specs.declared.sign.Sign.TheVariants as signs
use Rattle.net_verilog.specs.declared.fault.VerilogFault.{VerilogFault}
use Rattle.net_verilog.specs.declared.fault.VerilogFault.TheVariants.{Net, Syntax}
use Rattle.verilog_reader.specs.Declares.{ReadsName}
use Rattle.verilog_reader.specs.Items.{Items, State, after_wire, is_module, item_start}
use Rattle.verilog_reader.specs.declared.starts.ItemStart.{ItemStart}
use Rattle.verilog_reader.specs.declared.starts.ItemStart.TheVariants.{Declaration}

-- a direction and a range, as a declaration in a list of ports gives them to the names after it
abbrev pub Head : Type 0
Head = Direction × Range

-- `input` or `output`
abbrev pub port_direction : ItemStart → Option Direction
port_direction (Declaration Input) = Some Input
port_direction (Declaration Output) = Some Output
port_direction start = None

-- the direction and the range of a port: its own, or else those of the port before
abbrev pub port_head : Head → Option Direction → TokenValue → List TokenValue → Answer Head
port_head before None t ts = Ok (before, t ∷ ts)
port_head before (Some direction) t ts = on_value (λ (r : Range × List TokenValue). Ok ((direction, r.0), r.1)) (range (after_wire ts))

abbrev pub head_of : Head → List TokenValue → Answer Head
head_of before [] = Ok (before, [])
head_of before (t ∷ ts) = port_head before (port_direction (item_start t)) t ts

-- a port of a list of declarations, after those before it
abbrev pub ReadsPort : (Head × State) → List TokenValue → Reads (Head × State)
ReadsPort state tokens = do
  head ← Returns (head_of state.0 tokens)
  named ← ReadsName head.0.1 head.0.0 state.1 head.1
  Exactly ((head.0, named.0), named.1)

-- `decl1 {, (decl1 | id)}` and `)`
abbrev pub DeclaredPorts : State → List TokenValue → Reads State
DeclaredPorts state tokens = do
  ports ← Several ReadsPort ((Wire, None), state) tokens
  right ← Returns (taken signs.Close ports.1)
  Exactly (ports.0.1, right.1)

-- a name of a plain list of ports, which is read and not used
abbrev pub PlainPort : State → List TokenValue → Reads State
PlainPort state tokens = do
  name ← Returns (identifier tokens)
  Exactly (state, name.1)

-- `id {, id}` and `)`
abbrev pub PlainPorts : State → List TokenValue → Reads State
PlainPorts state tokens = do
  names ← Several PlainPort state tokens
  right ← Returns (taken signs.Close names.1)
  Exactly (names.0, right.1)

-- the ports that begin with a token
abbrev pub PortsFrom : Option Direction → State → List TokenValue → Reads State
PortsFrom None state tokens = PlainPorts state tokens
PortsFrom (Some direction) state tokens = DeclaredPorts state tokens

-- `[ports] )` after `(`
abbrev pub PortsAfter : State → List TokenValue → Reads State
PortsAfter state [] = Returns (Err (Syntax 0))
PortsAfter state (t ∷ ts) = Either (is_close t.kind) (Exactly (state, ts)) (PortsFrom (port_direction (item_start t)) state (t ∷ ts))

abbrev pub open_first : List TokenValue → Bool
open_first [] = false
open_first (t ∷ ts) = is_open t.kind

-- `[ ( [ports] ) ]`
abbrev pub PortList : State → List TokenValue → Reads State
PortList state tokens = Either (open_first tokens) (PortsAfter state (after_first tokens)) (Exactly (state, tokens))

-- the tokens after `module`
abbrev pub module_taken : List TokenValue → Result (List TokenValue) VerilogFault
module_taken [] = Err (Syntax 0)
module_taken (t ∷ ts) = if is_module t then Ok ts else Err (wrong t)

-- nothing follows
abbrev pub nothing_more : NetList → List TokenValue → Result NetList VerilogFault
nothing_more net [] = Err (Syntax 0)
nothing_more net (t ∷ ts) = if is_end t.kind then Ok net else Err (wrong t)

-- `module id [ ( [ports] ) ] ; {item} endmodule`, and nothing around it
abbrev pub Module : List TokenValue → Outcome VerilogFault NetList
Module tokens = do
  begun ← Returns (module_taken tokens)
  name ← Returns (identifier begun)
  ports ← PortList (undeclared, empty) name.1
  sign ← Returns (taken signs.Semicolon ports.1)
  items ← Items ports.0 sign.1
  Returns (nothing_more items.0.1 items.1)

-- The net of a text: its module is read, whose first fault counts, and then the net is sound.
abbrev pub VerilogNet : List ℕ → Outcome VerilogFault NetList
VerilogNet text = do
  made ← Module (tokens_of text)
  Within Net (Settles made)
