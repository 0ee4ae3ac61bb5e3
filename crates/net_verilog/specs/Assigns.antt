-- Assignments. Source: IEEE Std 1364-2005, section 6 and annex A.6.1, in the profile of docs/FORMATS.md.
use Rattle.std.specs.Prelude.{List, Result, Ok, Err}
use Rattle.outcome.specs.Outcome.{Outcome, ◌>>=◌, Exactly, Returns}
use Rattle.net_core.specs.NetList.{NetList}
use Rattle.net_core.specs.declared.fault.NetFault.{NetFault}
use Rattle.net_verilog.specs.Tokens.{TokenValue}
use Rattle.net_verilog.specs.Targets.{target_of}
use Rattle.net_verilog.specs.Made.{driven, mentioned}
use Rattle.net_verilog.specs.Expression.{Expression}
use Rattle.net_verilog.specs.Parts.{taken}
use Rattle.net_verilog.specs.Declarations.{Declarations}
use Rattle.net_verilog.specs.declared.sign.Sign.TheVariants.{Equals}
use Rattle.net_verilog.specs.declared.fault.VerilogFault.{VerilogFault}
use Rattle.net_verilog.specs.declared.fault.VerilogFault.TheVariants.{Net}

-- what was read, and the tokens after it
abbrev pub Reads : Type 0 → Type 1
Reads A = Outcome VerilogFault (A × List TokenValue)

-- a fault of the net as one of the text
abbrev pub net_fault : {A : Type 0} → Result A NetFault → Result A VerilogFault
net_fault (Ok a) = Ok a
net_fault (Err e) = Err (Net e)

-- `target = expression`: the target is mentioned first; the outermost operator drives it, a net alone drives it by a buffer
abbrev pub Assigns : Declarations → NetList → List TokenValue → Reads NetList
Assigns declared net tokens = do
  target ← Returns (target_of declared tokens)
  out ← Returns (net_fault (mentioned net target.0))
  sign ← Returns (taken Equals target.1)
  read ← Expression declared out.0 sign.1
  more ← Returns (net_fault (driven read.net out.1 read.driver))
  Exactly (more, read.rest)
