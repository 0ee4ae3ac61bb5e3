-- At most one net with its binding, or one fault, comes of a netlist.
use Rattle.std.proofs.Common.{List}
use Rattle.outcome.proofs.DeterminedLemmas.{determined_bind, determined_exactly, determined_within}
use Rattle.outcome.specs.Outcome.{Determined, Exactly, Within}
use Rattle.net_core.specs.NetList.{NetList}
use Rattle.net_aiger.specs.AigerNet.{AigerNet}
use Rattle.net_aiger.proofs.AigerDetermined.{aiger_determined}
use Rattle.verilog_reader.specs.Modules.{VerilogNet}
use Rattle.verilog_reader.proofs.VerilogDetermined.{verilog_determined}
use Rattle.net_flat.specs.Flat.{Flattens}
use Rattle.net_blif.specs.Models.{BlifDesign}
use Rattle.net_flat.proofs.FlatDetermined.{flattens_once}
use Rattle.net_blif.proofs.OutcomeLemmas.{determined_design}
use Rattle.net_words.specs.Bind.{BindingOf}
use Rattle.net_words.specs.Binding.{Binding, BoundNet}
use Rattle.net_words.specs.declared.binding.BindFault.{BindFault}
use Rattle.net_words.specs.declared.feed.FeedText.{FeedText}
use Rattle.net_words.specs.declared.word.WordText.{WordText}
use Rattle.net_signature.specs.Signature.{SignatureValue}
use Rattle.net_words.proofs.BindDetermined.{binding_determined}
use Rattle.job_input.specs.NetlistOf.{Aiger, Blif, BoundNetOf, NetOf, NetlistText, Verilog, WordsBound, of_aiger, of_binding, of_model, of_text, of_verilog}
use Rattle.job_words.specs.declared.netlist_fault.NetlistFault.{NetlistFault}
use Rattle.job_words.specs.declared.netlist_fault.NetlistFault.TheVariants as netlist

net_determined : (text : NetlistText) → Determined (NetOf text)
net_determined (Blif text) =
    determined_bind (Within of_text (BlifDesign text)) (λ design. Within of_model (Flattens design 0)) (determined_within of_text (BlifDesign text) (determined_design text))
    (λ design. determined_within of_model (Flattens design 0) (flattens_once design 0))
net_determined (Verilog text) = determined_within of_verilog (VerilogNet text) (verilog_determined text)
net_determined (Aiger text) = determined_within of_aiger (AigerNet text) (aiger_determined text)

words_determined : (words : List WordText) (feeds : List FeedText) (net : NetList) → Determined (WordsBound words feeds net)
words_determined words feeds net =
    determined_bind (Within named (BindingOf net words feeds)) (λ bound. Exactly (with_words bound)) (determined_within named (BindingOf net words feeds) (binding_determined net words feeds)) (λ bound. determined_exactly (with_words bound))
  where
    named : BindFault → NetlistFault
    named fault = netlist.Binding (of_binding words net fault)

    with_words : Binding → BoundNet
    with_words bound = record { net = net; binding = bound }

pub netlist_determined : (signature : SignatureValue) (text : NetlistText) → Determined (BoundNetOf signature text)
netlist_determined signature text = determined_bind (NetOf text) (λ net. WordsBound signature.words signature.feeds net) (net_determined text) (λ net. words_determined signature.words signature.feeds net)
