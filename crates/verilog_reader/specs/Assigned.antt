-- The assignments of a text: where one stands, with its target and the tree of its expression. Source: IEEE Std 1364-2005, section 6,
-- in the profile of docs/FORMATS.md.
use Rattle.std.specs.Prelude.{◌≡◌, ℕ, zero, suc, ◌≤◌, Bool, true, false, List, ◌∷◌, Some, Ok}
use Rattle.net_core.specs.NetList.{NetList, empty, number_of}
use Rattle.net_core.specs.Value.{bit_of}
use Rattle.net_verilog.specs.Made.{value}
use Rattle.net_verilog.specs.Value.{named_bit}
use Rattle.net_verilog.specs.Tokens.{TokenValue, tokens_of}
use Rattle.net_verilog.specs.Targets.{target_of}
use Rattle.net_verilog.specs.Tree.{Tree, IsWell, Spells, nesting}
use Rattle.net_verilog.specs.Expression.{continues}
use Rattle.net_verilog.specs.Parts.{identifier, taken}
use Rattle.net_verilog.specs.Assigns.{Assigns}
use Rattle.net_verilog.specs.Several.{after_first, comma_first}
use Rattle.net_verilog.specs.Declarations.{Declarations, undeclared}
use Rattle.net_verilog.specs.declared.sign.Sign.TheVariants as signs
use Rattle.verilog_reader.specs.Items.{Item, State, endmodule_first, item_start}
use Rattle.verilog_reader.specs.Modules.{PortList, module_taken}
use Rattle.verilog_reader.specs.declared.starts.ItemStart.TheVariants.{Assignments}

-- `name = tree` at these tokens, where the names are declared so
pub record IsAssignment (declared : Declarations) (tokens : List TokenValue) (name : List ℕ) (tree : Tree) : Type 0 where
  pub sign : List TokenValue
  pub line : ℕ
  pub right : List TokenValue
  pub rest : List TokenValue
  pub targets : target_of declared tokens ≡ Ok (name, sign)
  pub takes : taken signs.Equals sign ≡ Ok (line, right)
  pub spells : Spells declared tree right rest
  pub well : IsWell tree
  pub flat : nesting tree ≤ 1024
  pub ends : continues rest ≡ false

-- the first of the assignments from these tokens on, or one that is read after a comma
abbrev pub AssignedOf : ℕ → Declarations → NetList → List TokenValue → List ℕ → Tree → Type 0
AssignedOf zero declared net tokens name tree = IsAssignment declared tokens name tree
AssignedOf (suc n) declared net tokens name tree = (first : NetList × List TokenValue) × Assigns declared net tokens (Ok first) × (comma_first first.1 ≡ true) × AssignedOf n declared first.0 (after_first first.1) name tree

-- an assignment of the item at these tokens
abbrev pub AssignedHere : State → List TokenValue → List ℕ → Tree → Type 0
AssignedHere state tokens name tree = (n : ℕ) × (t : TokenValue) × (ts : List TokenValue) × (tokens ≡ t ∷ ts) × (item_start t ≡ Assignments) × AssignedOf n state.0 state.1 ts name tree

-- an assignment of the first item, or of one after so many others
abbrev pub AssignedAmong : ℕ → State → List TokenValue → List ℕ → Tree → Type 0
AssignedAmong zero state tokens name tree = (endmodule_first tokens ≡ false) × AssignedHere state tokens name tree
AssignedAmong (suc n) state tokens name tree = (endmodule_first tokens ≡ false) × ((next : State × List TokenValue) × Item state tokens (Ok next) × AssignedAmong n next.0 next.1 name tree)

-- `name = tree` is an assignment of the text
pub record IsAssigned (text : List ℕ) (name : List ℕ) (tree : Tree) : Type 0 where
  pub begun : List TokenValue
  pub module_name : (ℕ × List ℕ) × List TokenValue
  pub ports : State × List TokenValue
  pub sign : ℕ × List TokenValue
  pub before : ℕ
  pub begins : module_taken (tokens_of text) ≡ Ok begun
  pub named : identifier begun ≡ Ok module_name
  pub listed : PortList (undeclared, empty) module_name.1 (Ok ports)
  pub takes : taken signs.Semicolon ports.1 ≡ Ok sign
  pub stands : AssignedAmong before ports.0 sign.1 name tree

-- in this list of bits the net of this name has the tree's value
abbrev pub HasValueOf : NetList → List Bool → List ℕ → Tree → Type 0
HasValueOf net bits name tree = (n : ℕ) × (number_of net name ≡ Some n) × (bit_of bits n ≡ value (named_bit net bits) tree)
