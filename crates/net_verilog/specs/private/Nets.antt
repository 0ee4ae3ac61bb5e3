-- The nets of targets, and the parts of an instance of a gate, as they are read: words of this crate's code. Source: this project's own.
use Rattle.std.specs.Prelude.{◌≡◌, ◌⊎◌, ℕ, List, [], Ok, Err}
use Rattle.outcome.specs.Outcome.{◌>>=◌, Exactly, Returns}
use Rattle.net_core.specs.NetList.{NetList}
use Rattle.net_core.specs.declared.fault.NetFault.{NetFault}
use Rattle.net_verilog.specs.Tokens.{TokenValue}
use Rattle.net_verilog.specs.Targets.{target_of}
use Rattle.net_verilog.specs.Made.{mentioned}
use Rattle.net_verilog.specs.Parts.{taken}
use Rattle.net_verilog.specs.Assigns.{Reads}
use Rattle.net_verilog.specs.Several.{Several}
use Rattle.net_verilog.specs.Instances.{ReadsInput, ReadsInstance, after_name, placed}
use Rattle.net_verilog.specs.Declarations.{Declarations}
use Rattle.net_verilog.specs.declared.gate_kind.GateKind.{GateKind}
use Rattle.net_verilog.specs.declared.sign.Sign.TheVariants as signs
use Rattle.net_verilog.specs.declared.fault.VerilogFault.{VerilogFault}
use Rattle.net_verilog.specs.declared.fault.VerilogFault.TheVariants.{Net}

-- a target is read and its net mentioned: the net list, the number of the net, and the tokens after the target
pub record Mentions (declared : Declarations) (net : NetList) (tokens : List TokenValue) (more : NetList) (number : ℕ) (rest : List TokenValue) : Type 0 where
  pub name : List ℕ
  pub targets : target_of declared tokens ≡ Ok (name, rest)
  pub mentions : mentioned net name ≡ Ok (more, number)

-- no target stands there, or its net passes a limit
abbrev pub IsNoNet : Declarations → NetList → List TokenValue → VerilogFault → Type 0
IsNoNet declared net tokens fault =
    (target_of declared tokens ≡ Err fault)
    ⊎ ((name : List ℕ) × (rest : List TokenValue) × (refusal : NetFault) × (target_of declared tokens ≡ Ok (name, rest)) × (mentioned net name ≡ Err refusal) × (fault ≡ Net refusal))

-- what stands before the inputs of an instance is read: the net list with the net of the target, its number, and the tokens of the inputs
pub record BeginsInstance (declared : Declarations) (net : NetList) (tokens : List TokenValue) (more : NetList) (out : ℕ) (inputs : List TokenValue) : Type 0 where
  pub named : List TokenValue
  pub line : ℕ
  pub target : List TokenValue
  pub comma : List TokenValue
  pub second : ℕ
  pub skips : after_name tokens ≡ Ok named
  pub opens : taken signs.Open named ≡ Ok (line, target)
  pub mentions : Mentions declared net target more out comma
  pub takes : taken signs.Comma comma ≡ Ok (second, inputs)

-- an instance of whatever gate has this fault
abbrev pub BreaksInstance : Declarations → NetList → List TokenValue → VerilogFault → Type 0
BreaksInstance declared net tokens fault = (kind : GateKind) → ReadsInstance declared kind net tokens (Err fault)

-- an instance from its `)` on
abbrev pub EndsInstance : GateKind → NetList → ℕ → List ℕ → List TokenValue → Reads NetList
EndsInstance kind net out inputs tokens = do
  right ← Returns (taken signs.Close tokens)
  more ← Returns (placed kind net out inputs right.0)
  Exactly (more, right.1)

-- an instance from its inputs on
abbrev pub FromInputs : Declarations → GateKind → NetList → ℕ → List TokenValue → Reads NetList
FromInputs declared kind net out tokens = do
  inputs ← Several (ReadsInput declared) (net, []) tokens
  EndsInstance kind inputs.0.0 out inputs.0.1 inputs.1
