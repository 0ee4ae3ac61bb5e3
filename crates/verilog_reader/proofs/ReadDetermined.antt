-- At most one outcome comes of declarations and of instances.
use Rattle.std.proofs.Common.{◌∙◌, ap, sym, inl, inr, ℕ, List, Ok, Err}
use Rattle.outcome.proofs.DeterminedLemmas.{determined_bind, determined_returns}
use Rattle.outcome.specs.Outcome.{Determined}
use Rattle.net_core.specs.NetList.{NetList}
use Rattle.net_verilog.specs.Tokens.{TokenValue}
use Rattle.net_verilog.specs.Parts.{identifier}
use Rattle.net_verilog.specs.Assigns.{net_fault}
use Rattle.net_verilog.specs.Several.{Several}
use Rattle.net_verilog.specs.Instances.{ReadsInstance}
use Rattle.net_verilog.specs.Declarations.{Declarations, Range}
use Rattle.net_verilog.specs.declared.declared.Direction.{Direction}
use Rattle.net_verilog.specs.declared.gate_kind.GateKind.{GateKind}
use Rattle.net_verilog.proofs.SeveralLemmas.{exactly_same, several_determined}
use Rattle.net_verilog.proofs.StatementDetermined.{instance_determined}
use Rattle.verilog_reader.specs.Declares.{Declares, ReadsName, ported}

declares_determined : (declared : Declarations) (range : Range) (direction : Direction) (name : ℕ × List ℕ) → Determined (Declares declared range direction name)
declares_determined declared range direction name (Ok x) (Ok y) h k = ap Ok (h.2 ∙ sym k.2)
declares_determined declared range direction name (Ok x) (Err e) h k = elim k [ inl w ↦ absurd (w.0 h.0) | inr w ↦ absurd (h.1 w.1) ]
declares_determined declared range direction name (Err d) (Ok y) h k = elim h [ inl w ↦ absurd (w.0 k.0) | inr w ↦ absurd (k.1 w.1) ]
declares_determined declared range direction name (Err d) (Err e) h k = elim h [
  | inl w ↦ elim k [ inl v ↦ ap Err (w.1 ∙ sym v.1) | inr v ↦ absurd (w.0 v.0) ]
  | inr w ↦ elim k [ inl v ↦ absurd (v.0 w.0) | inr v ↦ ap Err (w.2 ∙ sym v.2) ]
]

pub name_determined : (range : Range) (direction : Direction) (state : Declarations × NetList) (tokens : List TokenValue) → Determined (ReadsName range direction state tokens)
name_determined range direction state tokens =
    determined_bind _ _ (determined_returns (identifier tokens)) (λ name.
    determined_bind _ _ (declares_determined state.0 range direction name.0) (λ declared.
    determined_bind _ _ (determined_returns (net_fault (ported direction state.1 name.0.1 range))) (λ net.
    exactly_same ((declared, net), name.1))))

pub names_determined : (range : Range) (direction : Direction) (state : Declarations × NetList) (tokens : List TokenValue) → Determined (Several (ReadsName range direction) state tokens)
names_determined range direction state tokens = several_determined (ReadsName range direction) (name_determined range direction) state tokens

pub instances_determined : (declared : Declarations) (kind : GateKind) (net : NetList) (tokens : List TokenValue) → Determined (Several (ReadsInstance declared kind) net tokens)
instances_determined declared kind net tokens = several_determined (ReadsInstance declared kind) (instance_determined declared kind) net tokens
