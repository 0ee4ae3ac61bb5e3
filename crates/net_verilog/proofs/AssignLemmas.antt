-- Assignments, as their reader's goals want them.
use Rattle.std.proofs.Common.{◌≡◌, ◌⊎◌, ◌∙◌, ap, inl, inr, sym, refl, ℕ, List, Ok, Err}
use Rattle.net_core.specs.NetList.{NetList}
use Rattle.net_verilog.specs.Tokens.{TokenValue}
use Rattle.net_verilog.specs.Made.{driven}
use Rattle.net_verilog.specs.Expression.{Expression, Read}
use Rattle.net_verilog.specs.Parts.{taken}
use Rattle.net_verilog.specs.Assigns.{Assigns, net_fault}
use Rattle.net_verilog.specs.Declarations.{Declarations}
use Rattle.net_verilog.specs.private.Gates.{IsRefused}
use Rattle.net_verilog.specs.private.Nets.{IsNoNet, Mentions}
use Rattle.net_verilog.specs.declared.sign.Sign.TheVariants.{Equals}
use Rattle.net_verilog.specs.declared.fault.VerilogFault.{VerilogFault}
use Rattle.net_verilog.specs.declared.fault.VerilogFault.TheVariants as faults

-- no target stands there, or its net passes a limit
pub assign_target : (declared : Declarations) (net : NetList) (tokens : List TokenValue) (fault : VerilogFault) → IsNoNet declared net tokens fault → Assigns declared net tokens (Err fault)
assign_target declared net tokens fault (inl is) = inl (sym is)
assign_target declared net tokens fault (inr (name, rest, refusal, targets, mentions, same)) = inr ((name, rest), sym targets, inl (ap (λ f. Err f) same ∙ sym (ap net_fault mentions)))

-- no `=` stands after the target
pub assign_sign : (declared : Declarations) (net mid : NetList) (tokens one : List TokenValue) (out : ℕ) → Mentions declared net tokens mid out one → (fault : VerilogFault) → taken Equals one ≡ Err fault → Assigns declared net tokens (Err fault)
assign_sign declared net mid tokens one out m fault is = inr ((m.name, one), sym m.targets, inr ((mid, out), sym (ap net_fault m.mentions), inl (sym is)))

-- what stands before the expression
module _ (declared : Declarations) (net mid : NetList) (tokens one two : List TokenValue) (out line : ℕ) (m : Mentions declared net tokens mid out one) (takes : taken Equals one ≡ Ok (line, two)) where
  pub assign_made : (read : Read) (more : NetList) → Expression declared mid two (Ok read) → driven read.net out read.driver ≡ Ok more → Assigns declared net tokens (Ok (more, read.rest))
  assign_made read more reads drives = ((m.name, one), sym m.targets, ((mid, out), sym (ap net_fault m.mentions), ((line, two), sym takes, (read, reads, (more, sym (ap net_fault drives), refl)))))

  pub assign_expression : (fault : VerilogFault) → Expression declared mid two (Err fault) → Assigns declared net tokens (Err fault)
  assign_expression fault refuses = inr ((m.name, one), sym m.targets, inr ((mid, out), sym (ap net_fault m.mentions), inr ((line, two), sym takes, inl refuses)))

  pub assign_limit : (read : Read) (fault : VerilogFault) → Expression declared mid two (Ok read) → IsRefused (driven read.net out read.driver) fault → (fault ≡ faults.OutOfMemory) ⊎ Assigns declared net tokens (Err fault)
  assign_limit read fault reads (inl memory) = inl memory
  assign_limit read fault reads (inr (refusal, drives, same)) = inr (inr ((m.name, one), sym m.targets, inr ((mid, out), sym (ap net_fault m.mentions), inr ((line, two), sym takes, inr (read, reads, inl (ap (λ f. Err f) same ∙ sym (ap net_fault drives)))))))
