-- The labels of a net in structural Verilog have no line feed, nor has what its faults repeat.
use Rattle.std.proofs.Common.{inl, inr, subst, sym, ℕ, List, [], ◌∷◌, Ok, Err}
use Rattle.std.specs.List.{AllByRecursion}
use Rattle.job_input.proofs.AigerLabelLemmas.{settled_keeps}
use Rattle.text_core.specs.Lines.{IsPrinting}
use Rattle.net_core.specs.NetList.{LabelValue, NetList}
use Rattle.net_core.specs.declared.fault.NetFault.{NetFault}
use Rattle.net_core.specs.declared.fault.NetFault.TheVariants as nets
use Rattle.net_verilog.specs.Tokens.{tokens_of}
use Rattle.net_verilog.specs.declared.fault.VerilogFault.{VerilogFault}
use Rattle.net_verilog.specs.declared.fault.VerilogFault.TheVariants as verilogs
use Rattle.verilog_reader.specs.Modules.{Module, VerilogNet}
use Rattle.verilog_reader.proofs.PrintLemmas.{FaultPrints, IsLimit}
use Rattle.verilog_reader.proofs.TextLemmas.{module_keeps, tokens_print}
use Rattle.job_words.proofs.OneLineLemmas.{IsClean, kept_clean}
use Rattle.job_input.proofs.BlifLabelLemmas.{printing_kept}
use Rattle.job_input.proofs.LabelFaultLemmas.{HasCleanLabels, NetKeeps}

-- the word of a fault prints, and the label of one of the net has no line feed
abbrev pub VerilogKeeps : VerilogFault → Type 0
VerilogKeeps (verilogs.LeftOut line word) = IsPrinting word
VerilogKeeps (verilogs.Net fault) = NetKeeps fault
VerilogKeeps fault = Unit {0}

limit_keeps : (fault : NetFault) → IsLimit fault → NetKeeps fault
limit_keeps nets.TooManyNets limit = tt
limit_keeps nets.TooManyGates limit = tt
limit_keeps (nets.DrivenTwice n label) limit = absurd limit
limit_keeps (nets.Undriven n label) limit = absurd limit
limit_keeps (nets.Loop loop label) limit = absurd limit
limit_keeps nets.OutOfMemory limit = tt

prints_keep : (fault : VerilogFault) → FaultPrints fault → VerilogKeeps fault
prints_keep (verilogs.Syntax line) prints = tt
prints_keep (verilogs.LeftOut line word) prints = prints
prints_keep (verilogs.Undeclared line) prints = tt
prints_keep (verilogs.OutOfRange line) prints = tt
prints_keep (verilogs.Redeclared line) prints = tt
prints_keep (verilogs.Arity line inputs) prints = tt
prints_keep (verilogs.Net fault) prints = limit_keeps fault prints
prints_keep verilogs.OutOfMemory prints = tt

-- the labels of what a module makes
made_labels : (text : List ℕ) (net : NetList) → Module (tokens_of text) (Ok net) → HasCleanLabels net
made_labels text net is = by net.labels ((module_keeps (tokens_of text) (tokens_print text) (Ok net) is).prints tt)
  where
    by : (list : List LabelValue) → AllByRecursion (λ (l : LabelValue). IsPrinting l.text) list → AllByRecursion (λ (l : LabelValue). IsClean l.text) list
    by [] all = tt
    by (l ∷ list) all = (kept_clean l.text (printing_kept l.text all.0), by list all.1)

pub verilog_labels : (text : List ℕ) (net : NetList) → VerilogNet text (Ok net) → HasCleanLabels net
verilog_labels text net (made, is, settles) = let P : NetList → Type 0 = HasCleanLabels in subst P (sym settles.0) (made_labels text made is)

pub verilog_fault_keeps : (text : List ℕ) (fault : VerilogFault) → VerilogNet text (Err fault) → VerilogKeeps fault
verilog_fault_keeps text fault (inl is) = prints_keep fault (module_keeps (tokens_of text) (tokens_print text) (Err fault) is)
verilog_fault_keeps text fault (inr (made, is, (other, settles, same))) = let P : VerilogFault → Type 0 = VerilogKeeps in subst P (sym same) (settled_keeps made (made_labels text made is) other settles)
