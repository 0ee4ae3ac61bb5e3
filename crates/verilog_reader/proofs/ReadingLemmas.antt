-- Names, declarations and modules that are refused after others of their parts were read.
use Rattle.std.proofs.Common.{◌≡◌, ◌⊎◌, ◌∙◌, ap, inl, inr, sym, ℕ, List, Ok, Err}
use Rattle.net_core.specs.NetList.{NetList}
use Rattle.net_verilog.specs.Tokens.{TokenValue}
use Rattle.net_verilog.specs.Parts.{identifier}
use Rattle.net_verilog.specs.Assigns.{net_fault}
use Rattle.net_verilog.specs.Declarations.{Declarations, Range}
use Rattle.net_verilog.specs.declared.declared.Direction.{Direction}
use Rattle.net_verilog.specs.declared.fault.VerilogFault.{VerilogFault}
use Rattle.net_verilog.specs.declared.fault.VerilogFault.TheVariants as faults
use Rattle.net_verilog.specs.private.Gates.{IsRefused}
use Rattle.verilog_reader.specs.Declares.{Declares, ReadsName, ported}

-- the ports of a name pass a limit
pub name_limit : (range : Range) (direction : Direction) (state : Declarations × NetList) (tokens after : List TokenValue) (line : ℕ) (name : List ℕ) (declared : Declarations) (fault : VerilogFault) → identifier tokens ≡ Ok ((line, name), after) → Declares state.0 range direction (line, name) (Ok declared) → IsRefused (ported direction state.1 name range) fault → (fault ≡ faults.OutOfMemory) ⊎ ReadsName range direction state tokens (Err fault)
name_limit range direction state tokens after line name declared fault found declares (inl memory) = inl memory
name_limit range direction state tokens after line name declared fault found declares (inr (refusal, is, same)) = inr (inr (((line, name), after), sym found, inr (declared, declares, inl (ap (λ e. Err e) same ∙ sym (ap net_fault is)))))
