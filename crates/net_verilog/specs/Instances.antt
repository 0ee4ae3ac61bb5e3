-- Instances of gates. Source: IEEE Std 1364-2005, section 7 and annex A.3, in the profile of docs/FORMATS.md.
use Rattle.std.specs.Prelude.{ℕ, zero, suc, ◌+◌, ◌^◌, ◌==◌, ◌&&◌, ◌%◌, ◌/◌, nat_le, nat_lt, not, Bool, false, List, [], ◌∷◌, ◌++◌, length, codes, is_some, Option, None, Some, Result, Ok, Err, if◌then◌else◌}
use Rattle.std.specs.Str.{bytes_eq}
use Rattle.outcome.specs.Outcome.{◌>>=◌, Exactly, Returns}
use Rattle.outcome.specs.Steps.{on_value}
use Rattle.net_core.specs.NetList.{NetList}
use Rattle.net_verilog.specs.Tokens.{TokenValue}
use Rattle.net_verilog.specs.Targets.{name_kind, target_of}
use Rattle.net_verilog.specs.Made.{mentioned, settled, with_gate_of}
use Rattle.net_verilog.specs.Expression.{Expression}
use Rattle.net_verilog.specs.Parts.{identifier, taken}
use Rattle.net_verilog.specs.Assigns.{Reads, net_fault}
use Rattle.net_verilog.specs.Several.{Several}
use Rattle.net_verilog.specs.Declarations.{Declarations}
use Rattle.net_verilog.specs.declared.gate_kind.GateKind.{GateKind}
use Rattle.net_verilog.specs.declared.gate_kind.GateKind.TheVariants.{And, Or, Xor, Nand, Nor, Xnor, Not, Buf}
use Rattle.net_verilog.specs.declared.sign.Sign.TheVariants as signs
use Rattle.net_verilog.specs.declared.fault.VerilogFault.{VerilogFault}
use Rattle.net_verilog.specs.declared.fault.VerilogFault.TheVariants.{Arity}

-- the gate of a keyword
abbrev pub gate_of : List ℕ → Option GateKind
gate_of word =
    if bytes_eq word (codes "and") then Some And
    else (if bytes_eq word (codes "or") then Some Or
    else (if bytes_eq word (codes "xor") then Some Xor
    else (if bytes_eq word (codes "nand") then Some Nand
    else (if bytes_eq word (codes "nor") then Some Nor
    else (if bytes_eq word (codes "xnor") then Some Xnor
    else (if bytes_eq word (codes "not") then Some Not
    else (if bytes_eq word (codes "buf") then Some Buf else None)))))))

-- `not` and `buf` have one input, the others two to six
abbrev pub fits_gate : GateKind → ℕ → Bool
fits_gate Not inputs = inputs == 1
fits_gate Buf inputs = inputs == 1
fits_gate kind inputs = nat_le 2 inputs && nat_le inputs 6

-- whether a gate is 1, where so many of its inputs are
abbrev pub gate_is_one : GateKind → ℕ → ℕ → Bool
gate_is_one And inputs ones = ones == inputs
gate_is_one Nand inputs ones = not (ones == inputs)
gate_is_one Or inputs ones = nat_lt 0 ones
gate_is_one Nor inputs ones = ones == 0
gate_is_one Xor inputs ones = (ones % 2) == 1
gate_is_one Xnor inputs ones = (ones % 2) == 0
gate_is_one Buf inputs ones = ones == 1
gate_is_one Not inputs ones = ones == 0

-- how many of the lowest bits of an index are 1
abbrev pub ones_of : ℕ → ℕ → ℕ
ones_of zero index = 0
ones_of (suc bits) index = index % 2 + ones_of bits (index / 2)

-- the number whose bit at each index below a count is 1 exactly where the gate is
abbrev pub table_below : GateKind → ℕ → ℕ → ℕ
table_below kind inputs zero = 0
table_below kind inputs (suc index) = table_below kind inputs index + (if gate_is_one kind inputs (ones_of inputs index) then 2 ^ index else 0)

-- the table of a gate
abbrev pub gate_table : GateKind → ℕ → ℕ
gate_table kind inputs = table_below kind inputs (2 ^ inputs)

-- an input of an instance, after those before it
abbrev pub ReadsInput : Declarations → (NetList × List ℕ) → List TokenValue → Reads (NetList × List ℕ)
ReadsInput declared so_far tokens = do
  read ← Expression declared so_far.0 tokens
  net ← Returns (net_fault (settled read.net read.driver))
  Exactly ((net.0, so_far.1 ++ net.1 ∷ []), read.rest)

-- the gate of an instance; a wrong number of inputs is a fault at its `)`
abbrev pub placed : GateKind → NetList → ℕ → List ℕ → ℕ → Result NetList VerilogFault
placed kind net out inputs line =
    if fits_gate kind (length inputs) then net_fault (with_gate_of net out inputs (gate_table kind (length inputs)))
    else Err (Arity line (length inputs))

abbrev pub named_first : List TokenValue → Bool
named_first [] = false
named_first (t ∷ ts) = is_some (name_kind t.kind t.text)

-- the tokens after the name of an instance, which is read and not used, where one stands
abbrev pub after_name : List TokenValue → Result (List TokenValue) VerilogFault
after_name tokens = if named_first tokens then on_value (λ (p : (ℕ × List ℕ) × List TokenValue). Ok p.1) (identifier tokens) else Ok tokens

-- `[id] ( target , expr { , expr } )`
abbrev pub ReadsInstance : Declarations → GateKind → NetList → List TokenValue → Reads NetList
ReadsInstance declared kind net tokens = do
  named ← Returns (after_name tokens)
  left ← Returns (taken signs.Open named)
  target ← Returns (target_of declared left.1)
  out ← Returns (net_fault (mentioned net target.0))
  first ← Returns (taken signs.Comma target.1)
  inputs ← Several (ReadsInput declared) (out.0, []) first.1
  right ← Returns (taken signs.Close inputs.1)
  more ← Returns (placed kind inputs.0.0 out.1 inputs.0.1 right.0)
  Exactly (more, right.1)
