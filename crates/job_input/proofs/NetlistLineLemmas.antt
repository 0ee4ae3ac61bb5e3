-- What the fault of a netlist repeats has no line feed.
use Rattle.std.proofs.Common.{◌≡◌, inl, inr, refl, subst, sym, ℕ, List, [], get_or, Option, None, Some, Ok, Err, arith}
use Rattle.std.specs.Prelude.{slice_get}
use Rattle.std.specs.List.{AllByRecursion}
use Rattle.std.specs.Option.{option_map_or}
use Rattle.std.proofs.lemmas.List.Elements.{All-from_get_or}
use Rattle.text_core.specs.Names.{IsName, IsNameByte}
use Rattle.net_core.specs.NetList.{NetList, text_of}
use Rattle.net_core.specs.declared.fault.NetFault.{NetFault}
use Rattle.net_core.specs.declared.fault.NetFault.TheVariants as nets
use Rattle.net_aiger.specs.declared.fault.AigerFault.{AigerFault}
use Rattle.net_aiger.specs.declared.fault.AigerFault.TheVariants as aigers
use Rattle.net_verilog.specs.declared.fault.VerilogFault.{VerilogFault}
use Rattle.net_verilog.specs.declared.fault.VerilogFault.TheVariants as verilogs
use Rattle.net_blif.specs.Design.{ModelValue}
use Rattle.net_flat.specs.Flat.{Flattens, nothing, net_list}
use Rattle.net_flat.specs.Walk.{walk_of}
use Rattle.net_blif.specs.Models.{BlifDesign}
use Rattle.net_blif.specs.declared.fault.BlifFault.{BlifFault}
use Rattle.net_blif.specs.declared.fault.BlifFault.TheVariants as texts
use Rattle.net_flat.specs.declared.flat_fault.FlatFault.{FlatFault}
use Rattle.net_flat.specs.declared.flat_fault.FlatFault.TheVariants as flats
use Rattle.net_signature.specs.Signature.{SignatureValue}
use Rattle.net_signature.specs.WordNames.{HaveNames}
use Rattle.net_words.specs.declared.binding.BindFault.{BindFault}
use Rattle.net_words.specs.declared.binding.BindFault.TheVariants as binds
use Rattle.net_words.specs.declared.feed.FeedText.{FeedText}
use Rattle.net_words.specs.declared.word.WordText.{WordText}
use Rattle.job_words.specs.OneLine.{HasNoLineFeed, repeated_of_binding, repeated_of_netlist}
use Rattle.job_words.specs.declared.netlist_fault.NetlistFault.{NetlistFault}
use Rattle.job_words.specs.declared.netlist_fault.NetlistFault.TheVariants as netlist
use Rattle.job_words.proofs.OneLineLemmas.{clean_kept}
use Rattle.job_input.specs.NetlistOf.{Aiger, Blif, BoundNetOf, NetOf, NetlistText, Verilog, WordsBound, of_aiger, of_binding, of_model, of_net, of_text, of_verilog, word_name}
use Rattle.job_input.proofs.AigerLabelLemmas.{AigerKeeps, aiger_fault_keeps, aiger_labels, settled_keeps}
use Rattle.job_input.proofs.BlifLabelLemmas.{IsLimit, printing_kept, walk_labels, walk_stops}
use Rattle.job_input.proofs.BlifTextLemmas.{FaultPrints, text_fault_prints}
use Rattle.job_input.proofs.LabelFaultLemmas.{HasCleanLabels, NetKeeps, text_clean}
use Rattle.job_input.proofs.VerilogLabelLemmas.{VerilogKeeps, verilog_fault_keeps, verilog_labels}

-- what a netlist's fault repeats has no line feed
abbrev pub NetlistKeeps : NetlistFault → Type 0
NetlistKeeps fault = AllByRecursion HasNoLineFeed (repeated_of_netlist fault)

same_keeps : (fault other : NetlistFault) → fault ≡ other → NetlistKeeps other → NetlistKeeps fault
same_keeps fault other same keeps = let P : NetlistFault → Type 0 = NetlistKeeps in subst P (sym same) keeps

-- ---- nets

net_keeps : (fault : NetFault) → NetKeeps fault → NetlistKeeps (of_net fault)
net_keeps nets.TooManyNets keeps = tt
net_keeps nets.TooManyGates keeps = tt
net_keeps (nets.DrivenTwice n label) keeps = (clean_kept label keeps, tt)
net_keeps (nets.Undriven n label) keeps = (clean_kept label keeps, tt)
net_keeps (nets.Loop loop label) keeps = (clean_kept label keeps, tt)
net_keeps nets.OutOfMemory keeps = tt

-- ---- BLIF

limit_keeps : (fault : FlatFault) → IsLimit fault → NetlistKeeps (of_model fault)
limit_keeps fault limit = elim limit [ inl same ↦ by same tt | inr (inl same) ↦ by same tt | inr (inr same) ↦ by same tt ]
  where
    by : {limit : FlatFault} → fault ≡ limit → NetlistKeeps (of_model limit) → NetlistKeeps (of_model fault)
    by same keeps = let P : FlatFault → Type 0 = λ f. NetlistKeeps (of_model f) in subst P (sym same) keeps

text_keeps : (fault : BlifFault) → FaultPrints fault → NetlistKeeps (of_text fault)
text_keeps texts.NoModel prints = tt
text_keeps (texts.Syntax line) prints = tt
text_keeps (texts.LeftOut line word) prints = (printing_kept word prints, tt)
text_keeps (texts.TooWide line inputs) prints = tt
text_keeps (texts.ModelTwice line) prints = tt
text_keeps (texts.NoSuchModel line) prints = tt
text_keeps (texts.NoSuchFormal line) prints = tt
text_keeps (texts.FormalTwice line) prints = tt
text_keeps (texts.FormalMissing line) prints = tt
text_keeps (texts.Recursive model) prints = (printing_kept model prints, tt)
text_keeps texts.TooDeep prints = tt
text_keeps texts.OutOfMemory prints = tt

-- a fault of the model's net is one of the net
model_keeps : (fault : FlatFault) (net : NetFault) → fault ≡ flats.Net net → NetKeeps net → NetlistKeeps (of_model fault)
model_keeps fault net same keeps = let P : FlatFault → Type 0 = λ f. NetlistKeeps (of_model f) in subst P (sym same) (net_keeps net keeps)

flat_keeps : (text : List ℕ) (design : List ModelValue) (fault : FlatFault) → BlifDesign text (Ok design) → Flattens design 0 (Err fault) → NetlistKeeps (of_model fault)
flat_keeps text design fault said (inl is) = limit_keeps fault (walk_stops nothing (walk_of design 0) fault (sym is))
flat_keeps text design fault said (inr (flat, is, (net, settles, same))) = model_keeps fault net same (settled_keeps (net_list flat) (walk_labels text design 0 flat said (sym is)) net settles)

-- ---- each form of netlists

aiger_keeps : (fault : AigerFault) → AigerKeeps fault → NetlistKeeps (of_aiger fault)
aiger_keeps (aigers.Syntax line) keeps = tt
aiger_keeps (aigers.LeftOut line word) keeps = (clean_kept word keeps, tt)
aiger_keeps (aigers.Literal line) keeps = tt
aiger_keeps (aigers.DefinedTwice line) keeps = tt
aiger_keeps (aigers.Undefined line) keeps = tt
aiger_keeps (aigers.NameTwice line) keeps = tt
aiger_keeps (aigers.Net fault) keeps = net_keeps fault keeps
aiger_keeps aigers.OutOfMemory keeps = tt

verilog_keeps : (fault : VerilogFault) → VerilogKeeps fault → NetlistKeeps (of_verilog fault)
verilog_keeps (verilogs.Syntax line) keeps = tt
verilog_keeps (verilogs.LeftOut line word) keeps = (printing_kept word keeps, tt)
verilog_keeps (verilogs.Undeclared line) keeps = tt
verilog_keeps (verilogs.OutOfRange line) keeps = tt
verilog_keeps (verilogs.Redeclared line) keeps = tt
verilog_keeps (verilogs.Arity line inputs) keeps = tt
verilog_keeps (verilogs.Net fault) keeps = net_keeps fault keeps
verilog_keeps verilogs.OutOfMemory keeps = tt

net_labels : (text : NetlistText) (net : NetList) → NetOf text (Ok net) → HasCleanLabels net
net_labels (Blif text) net (design, said, (flat, is, settles)) = let P : NetList → Type 0 = HasCleanLabels in subst P (sym settles.0) (walk_labels text design 0 flat said (sym is))
net_labels (Verilog text) net is = verilog_labels text net is
net_labels (Aiger text) net is = aiger_labels text net is

net_fault_keeps : (text : NetlistText) (fault : NetlistFault) → NetOf text (Err fault) → NetlistKeeps fault
net_fault_keeps (Blif text) fault (inl (other, is, same)) = same_keeps fault (of_text other) same (text_keeps other (text_fault_prints text other is))
net_fault_keeps (Blif text) fault (inr (design, said, (other, is, same))) = same_keeps fault (of_model other) same (flat_keeps text design other said is)
net_fault_keeps (Verilog text) fault (other, is, same) = same_keeps fault (of_verilog other) same (verilog_keeps other (verilog_fault_keeps text other is))
net_fault_keeps (Aiger text) fault (other, is, same) = same_keeps fault (of_aiger other) same (aiger_keeps other (aiger_fault_keeps text other is))

-- ---- names of words

byte_kept : (b : ℕ) → IsNameByte b → ¬ (b ≡ 10)
byte_kept b (inl letter) e = absurd (omega (arith, letter, e))
byte_kept b (inr line) e = absurd (omega (arith, line, e))

pub name_kept : (name : List ℕ) → IsName name → HasNoLineFeed name
name_kept name is = All-from_get_or (λ b. ¬ (b ≡ 10)) name 0 (λ i less. byte_kept (get_or name i 0) (is.each i less))

pub word_kept : (words : List WordText) (w : ℕ) → HaveNames words → HasNoLineFeed (word_name words w)
word_kept words w names = by (slice_get words w) refl
  where
    by : (found : Option WordText) → slice_get words w ≡ found → HasNoLineFeed (option_map_or (λ (word : WordText). word.name) found [])
    by None at = λ k d less. absurd (omega arith)
    by (Some word) at = name_kept word.name (names.names word (w, at))

binding_keeps : (words : List WordText) (net : NetList) (fault : BindFault) → HaveNames words → HasCleanLabels net → AllByRecursion HasNoLineFeed (repeated_of_binding (of_binding words net fault))
binding_keeps words net (binds.NoSuchNet word place) names labels = (word_kept words word names, tt)
binding_keeps words net (binds.NotInput word place) names labels = (word_kept words word names, tt)
binding_keeps words net (binds.NotLatch word place) names labels = (word_kept words word names, tt)
binding_keeps words net (binds.NetTwice n) names labels = (clean_kept (text_of net n) (text_clean net n labels), tt)
binding_keeps words net (binds.FeedNotFree line) names labels = tt
binding_keeps words net (binds.Uncovered n) names labels = (clean_kept (text_of net n) (text_clean net n labels), tt)
binding_keeps words net (binds.UnknownStart n) names labels = (clean_kept (text_of net n) (text_clean net n labels), tt)
binding_keeps words net binds.OutOfMemory names labels = ((λ k d less. absurd (omega arith)), tt)

bound_keeps : (words : List WordText) (feeds : List FeedText) (net : NetList) (fault : NetlistFault) → HaveNames words → HasCleanLabels net → WordsBound words feeds net (Err fault) → NetlistKeeps fault
bound_keeps words feeds net fault names labels (inl (other, is, same)) = same_keeps fault (netlist.Binding (of_binding words net other)) same (binding_keeps words net other names labels)
bound_keeps words feeds net fault names labels (inr (bound, is, never)) = absurd never

pub netlist_keeps : (signature : SignatureValue) (text : NetlistText) (fault : NetlistFault) → HaveNames signature.words → BoundNetOf signature text (Err fault) → NetlistKeeps fault
netlist_keeps signature text fault names (inl is) = net_fault_keeps text fault is
netlist_keeps signature text fault names (inr (net, is, wrong)) = bound_keeps signature.words signature.feeds net fault names (net_labels text net is) wrong
