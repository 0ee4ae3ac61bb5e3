-- The items of a module: declarations, assignments and instances of gates. Source: IEEE Std 1364-2005, annex A.1.4, in the profile of
-- docs/FORMATS.md.
use Rattle.std.specs.Prelude.{ℕ, zero, suc, Bool, false, List, [], ◌∷◌, codes, is_some, Option, None, Some, Err, if◌then◌else◌}
use Rattle.std.specs.Str.{bytes_eq}
use Rattle.outcome.specs.Outcome.{◌>>=◌, Exactly, Returns}
use Rattle.net_core.specs.NetList.{NetList}
use Rattle.net_verilog.specs.Tokens.{TokenValue}
use Rattle.net_verilog.specs.Words.{wrong}
use Rattle.net_verilog.specs.Targets.{Answer, name_kind}
use Rattle.net_verilog.specs.Parts.{range, taken}
use Rattle.net_verilog.specs.Assigns.{Assigns, Reads}
use Rattle.net_verilog.specs.Several.{Either, Never, Several, after_first}
use Rattle.net_verilog.specs.Instances.{ReadsInstance, gate_of}
use Rattle.net_verilog.specs.Declarations.{Declarations, Range}
use Rattle.net_verilog.specs.declared.declared.Direction.{Direction}
use Rattle.net_verilog.specs.declared.declared.Direction.TheVariants.{Input, Output, Wire}
use Rattle.net_verilog.specs.declared.gate_kind.GateKind.{GateKind}
use Rattle.net_verilog.specs.declared.kind.Kind.{Kind}
use Rattle.net_verilog.specs.declared.kind.Kind.TheVariants as kinds
use Rattle.net_verilog.specs.declared.sign.Sign.TheVariants as signs
use Rattle.net_verilog.specs.declared.fault.VerilogFault.{VerilogFault}
use Rattle.net_verilog.specs.declared.fault.VerilogFault.TheVariants.{LeftOut, Syntax}
use Rattle.verilog_reader.specs.Declares.{ReadsName}
use Rattle.verilog_reader.specs.declared.starts.ItemStart.{ItemStart}
use Rattle.verilog_reader.specs.declared.starts.ItemStart.TheVariants.{Declaration, Assignments, Instances, Other}

-- what is declared, and the net list
abbrev pub State : Type 0
State = Declarations × NetList

-- this word, unless it is escaped
abbrev pub word_is : Kind → List ℕ → List ℕ → Bool
word_is kinds.Word text word = bytes_eq text word
word_is kind text word = false

abbrev pub is_module : TokenValue → Bool
is_module t = word_is t.kind t.text (codes "module")

abbrev pub is_endmodule : TokenValue → Bool
is_endmodule t = word_is t.kind t.text (codes "endmodule")

abbrev pub is_wire : TokenValue → Bool
is_wire t = word_is t.kind t.text (codes "wire")

-- what begins with a word
abbrev pub gate_start : Option GateKind → ItemStart
gate_start None = Other
gate_start (Some kind) = Instances kind

abbrev pub word_start : List ℕ → ItemStart
word_start word =
    if bytes_eq word (codes "input") then Declaration Input
    else (if bytes_eq word (codes "output") then Declaration Output
    else (if bytes_eq word (codes "wire") then Declaration Wire
    else (if bytes_eq word (codes "assign") then Assignments
    else gate_start (gate_of word))))

-- what begins with a token
abbrev pub kind_start : Kind → List ℕ → ItemStart
kind_start kinds.Word text = word_start text
kind_start kind text = Other

abbrev pub item_start : TokenValue → ItemStart
item_start t = kind_start t.kind t.text

-- an identifier with which no item begins is left out, with its text as it stands; all else is wrong as anywhere
abbrev pub item_fault : TokenValue → VerilogFault
item_fault t = if is_some (name_kind t.kind t.text) then LeftOut t.line t.text else wrong t

abbrev pub after_wire : List TokenValue → List TokenValue
after_wire [] = []
after_wire (t ∷ ts) = if is_wire t then ts else t ∷ ts

-- `[wire] [range]` after `input` or `output`, `[range]` after `wire`
abbrev pub declared_range : Direction → List TokenValue → Answer Range
declared_range Wire tokens = range tokens
declared_range direction tokens = range (after_wire tokens)

-- the rest of a declaration: `[wire] [range] id {, id} ;`
abbrev pub ReadsDeclaration : Direction → State → List TokenValue → Reads State
ReadsDeclaration direction state tokens = do
  ranged ← Returns (declared_range direction tokens)
  names ← Several (ReadsName ranged.0 direction) state ranged.1
  end ← Returns (taken signs.Semicolon names.1)
  Exactly (names.0, end.1)

-- the rest of an `assign`: `target = expr {, target = expr} ;`
abbrev pub ReadsAssignments : State → List TokenValue → Reads State
ReadsAssignments state tokens = do
  net ← Several (Assigns state.0) state.1 tokens
  end ← Returns (taken signs.Semicolon net.1)
  Exactly ((state.0, net.0), end.1)

-- the rest of a statement of a gate: `inst {, inst} ;`
abbrev pub ReadsInstances : GateKind → State → List TokenValue → Reads State
ReadsInstances kind state tokens = do
  net ← Several (ReadsInstance state.0 kind) state.1 tokens
  end ← Returns (taken signs.Semicolon net.1)
  Exactly ((state.0, net.0), end.1)

-- an item, by its first token
abbrev pub ReadsItem : ItemStart → State → TokenValue → List TokenValue → Reads State
ReadsItem (Declaration direction) state t ts = ReadsDeclaration direction state ts
ReadsItem Assignments state t ts = ReadsAssignments state ts
ReadsItem (Instances kind) state t ts = ReadsInstances kind state ts
ReadsItem Other state t ts = Returns (Err (item_fault t))

-- an item
abbrev pub Item : State → List TokenValue → Reads State
Item state [] = Returns (Err (Syntax 0))
Item state (t ∷ ts) = ReadsItem (item_start t) state t ts

abbrev pub endmodule_first : List TokenValue → Bool
endmodule_first [] = false
endmodule_first (t ∷ ts) = is_endmodule t

-- items up to `endmodule`, with it; fewer than so many
abbrev pub ItemsOf : ℕ → State → List TokenValue → Reads State
ItemsOf zero state tokens = Never
ItemsOf (suc more) state tokens = Either (endmodule_first tokens) (Exactly (state, after_first tokens)) (do
  next ← Item state tokens
  ItemsOf more next.0 next.1)

-- items up to `endmodule`, with it
abbrev pub Items : State → List TokenValue → Reads State
Items state tokens outcome = (n : ℕ) × ItemsOf n state tokens outcome
