-- Inputs and instances, as their readers' goals want them.
use Rattle.std.proofs.Common.{◌≡◌, ◌⊎◌, ◌∙◌, ap, inl, inr, sym, ℕ, List, [], ◌∷◌, ◌++◌, Result, Ok, Err}
use Rattle.net_core.specs.NetList.{NetList}
use Rattle.net_verilog.specs.Tokens.{TokenValue}
use Rattle.net_verilog.specs.Targets.{target_of}
use Rattle.net_verilog.specs.Made.{mentioned, settled}
use Rattle.net_verilog.specs.Expression.{Expression, Read}
use Rattle.net_verilog.specs.Parts.{taken}
use Rattle.net_verilog.specs.Assigns.{net_fault}
use Rattle.net_verilog.specs.Instances.{ReadsInput, ReadsInstance, after_name}
use Rattle.net_verilog.specs.Declarations.{Declarations}
use Rattle.net_verilog.specs.private.Gates.{IsRefused}
use Rattle.net_verilog.specs.private.Nets.{BeginsInstance, BreaksInstance, FromInputs, IsNoNet, Mentions}
use Rattle.net_verilog.specs.declared.gate_kind.GateKind.{GateKind}
use Rattle.net_verilog.specs.declared.sign.Sign.TheVariants as signs
use Rattle.net_verilog.specs.declared.fault.VerilogFault.{VerilogFault}
use Rattle.net_verilog.specs.declared.fault.VerilogFault.TheVariants as faults

module _ (declared : Declarations) (net : NetList) (so_far : List ℕ) (tokens : List TokenValue) (read : Read) (reads : Expression declared net tokens (Ok read)) where
  pub input_made : (more : NetList) (n : ℕ) (items : List ℕ) → settled read.net read.driver ≡ Ok (more, n) → items ≡ so_far ++ n ∷ [] → ReadsInput declared (net, so_far) tokens (Ok ((more, items), read.rest))
  input_made more n items settles is = (read, reads, ((more, n), sym (ap net_fault settles), ap (λ xs. ((more, xs), read.rest)) is))

  pub input_limit : (fault : VerilogFault) → IsRefused (settled read.net read.driver) fault → (fault ≡ faults.OutOfMemory) ⊎ ReadsInput declared (net, so_far) tokens (Err fault)
  input_limit fault (inl memory) = inl memory
  input_limit fault (inr (refusal, settles, same)) = inr (inr (read, reads, inl (ap (λ f. Err f) same ∙ sym (ap net_fault settles))))

-- what stands before the inputs
pub from_inputs : (declared : Declarations) (kind : GateKind) (net mid : NetList) (tokens first : List TokenValue) (out : ℕ) → BeginsInstance declared net tokens mid out first → (outcome : Result (NetList × List TokenValue) VerilogFault) → FromInputs declared kind mid out first outcome → ReadsInstance declared kind net tokens outcome
from_inputs declared kind net mid tokens first out b (Ok found) rest = (b.named, sym b.skips, ((b.line, b.target), sym b.opens, ((b.mentions.name, b.comma), sym b.mentions.targets, ((mid, out), sym (ap net_fault b.mentions.mentions), ((b.second, first), sym b.takes, rest)))))
from_inputs declared kind net mid tokens first out b (Err fault) rest = inr (b.named, sym b.skips, inr ((b.line, b.target), sym b.opens, inr ((b.mentions.name, b.comma), sym b.mentions.targets, inr ((mid, out), sym (ap net_fault b.mentions.mentions), inr ((b.second, first), sym b.takes, rest)))))

-- what stands before the target
module _ (declared : Declarations) (net : NetList) (tokens named target : List TokenValue) (line : ℕ) (fault : VerilogFault) (skips : after_name tokens ≡ Ok named) (opens : taken signs.Open named ≡ Ok (line, target)) where
  pub net_refused : IsNoNet declared net target fault → BreaksInstance declared net tokens fault
  net_refused (inl is) kind = inr (named, sym skips, inr ((line, target), sym opens, inl (sym is)))
  net_refused (inr (name, comma, refusal, targets, mentions, same)) kind = inr (named, sym skips, inr ((line, target), sym opens, inr ((name, comma), sym targets, inl (ap (λ f. Err f) same ∙ sym (ap net_fault mentions)))))

  pub comma_refused : (mid : NetList) (out : ℕ) (comma : List TokenValue) → Mentions declared net target mid out comma → taken signs.Comma comma ≡ Err fault → BreaksInstance declared net tokens fault
  comma_refused mid out comma m is kind = inr (named, sym skips, inr ((line, target), sym opens, inr ((m.name, comma), sym m.targets, inr ((mid, out), sym (ap net_fault m.mentions), inl (sym is)))))

-- a target whose net passes a limit
pub no_net : (declared : Declarations) (net : NetList) (tokens rest : List TokenValue) (name : List ℕ) (fault : VerilogFault) → target_of declared tokens ≡ Ok (name, rest) → IsRefused (mentioned net name) fault → (fault ≡ faults.OutOfMemory) ⊎ IsNoNet declared net tokens fault
no_net declared net tokens rest name fault targets (inl memory) = inl memory
no_net declared net tokens rest name fault targets (inr (refusal, mentions, same)) = inr (inr (name, rest, refusal, targets, mentions, same))
