-- The net of a netlist's text with the words of a signature bound to it, or the fault with which it is refused. Source: this
-- project's own, docs/DEFINITIONS.md; nets are those of the BLIF format of UC Berkeley, of structural Verilog and of ASCII AIGER.
use Rattle.std.specs.Prelude.{ℕ, Option, List, [], length, slice_get, if◌then◌else◌}
use Rattle.std.specs.Option.{option_map_or}
use Rattle.outcome.specs.Outcome.{Outcome, ◌>>=◌, Exactly, Within}
use Rattle.job_io.specs.Shelf.{Files}
use Rattle.job_input.specs.File.{Read}
use Rattle.net_core.specs.NetList.{NetList, text_of}
use Rattle.net_core.specs.declared.fault.NetFault.{NetFault}
use Rattle.net_core.specs.declared.fault.NetFault.TheVariants as nets
use Rattle.net_aiger.specs.AigerNet.{AigerNet}
use Rattle.net_aiger.specs.declared.fault.AigerFault.{AigerFault}
use Rattle.net_aiger.specs.declared.fault.AigerFault.TheVariants as aigers
use Rattle.verilog_reader.specs.Modules.{VerilogNet}
use Rattle.net_verilog.specs.declared.fault.VerilogFault.{VerilogFault}
use Rattle.net_verilog.specs.declared.fault.VerilogFault.TheVariants as verilogs
use Rattle.net_flat.specs.Flat.{Flattens}
use Rattle.net_blif.specs.Models.{BlifDesign}
use Rattle.net_blif.specs.declared.fault.BlifFault.{BlifFault}
use Rattle.net_blif.specs.declared.fault.BlifFault.TheVariants as texts
use Rattle.net_flat.specs.declared.flat_fault.FlatFault.{FlatFault}
use Rattle.net_flat.specs.declared.flat_fault.FlatFault.TheVariants as flats
use Rattle.net_words.specs.Bind.{BindingOf}
use Rattle.net_words.specs.Binding.{BoundNet}
use Rattle.net_words.specs.declared.binding.BindFault.{BindFault}
use Rattle.net_words.specs.declared.binding.BindFault.TheVariants as binds
use Rattle.net_words.specs.declared.feed.FeedText.{FeedText}
use Rattle.net_words.specs.declared.word.WordText.{WordText}
use Rattle.net_signature.specs.Signature.{SignatureValue}
use Rattle.job_words.specs.Operands.{Word, is_aiger, is_verilog}
use Rattle.job_words.specs.declared.netlist_fault.BindingFault.{BindingFault}
use Rattle.job_words.specs.declared.netlist_fault.BindingFault.TheVariants as binding
use Rattle.job_words.specs.declared.fault.Fault.{Fault}
use Rattle.job_words.specs.declared.fault.Fault.TheVariants.{File, Netlist}
use Rattle.job_words.specs.declared.netlist_fault.NetlistFault.{NetlistFault}
use Rattle.job_words.specs.declared.netlist_fault.NetlistFault.TheVariants as netlist

-- the name of a word of the signature, by its number
abbrev pub word_name : List WordText → ℕ → Word
word_name words w = option_map_or (λ (word : WordText). word.name) (slice_get words w) []

-- A fault of the text as a fault of the netlist. Out of memory comes of no text: what stands for it is never met.
abbrev pub of_text : BlifFault → NetlistFault
of_text texts.NoModel = netlist.NoModel
of_text (texts.Syntax line) = netlist.Syntax line
of_text (texts.LeftOut line word) = netlist.LeftOut line word
of_text (texts.TooWide line inputs) = netlist.TooWide line inputs
of_text (texts.ModelTwice line) = netlist.ModelTwice line
of_text (texts.NoSuchModel line) = netlist.NoSuchModel line
of_text (texts.NoSuchFormal line) = netlist.NoSuchFormal line
of_text (texts.FormalTwice line) = netlist.FormalTwice line
of_text (texts.FormalMissing line) = netlist.FormalMissing line
of_text (texts.Recursive model) = netlist.Recursive model
of_text texts.TooDeep = netlist.TooDeep
of_text texts.OutOfMemory = netlist.NoModel

-- a fault of a net list as a fault of the netlist: a net by its label, a loop by its length and the label of its first net
abbrev pub of_net : NetFault → NetlistFault
of_net nets.TooManyNets = netlist.TooManyNets
of_net nets.TooManyGates = netlist.TooManyGates
of_net (nets.DrivenTwice n label) = netlist.DrivenTwice label
of_net (nets.Undriven n label) = netlist.Undriven label
of_net (nets.Loop loop label) = netlist.Loop (length loop) label
of_net nets.OutOfMemory = netlist.TooManyNets

-- a fault of the model's net as a fault of the netlist
abbrev pub of_model : FlatFault → NetlistFault
of_model (flats.Net fault) = of_net fault
of_model flats.TooManyInstances = netlist.TooManyInstances
of_model flats.OutOfMemory = netlist.TooManyNets

-- a fault of the binding with the name of its word, or the label of its net
abbrev pub of_binding : List WordText → NetList → BindFault → BindingFault
of_binding words net (binds.NoSuchNet word place) = binding.NoSuchNet (word_name words word) place
of_binding words net (binds.NotInput word place) = binding.NotInput (word_name words word) place
of_binding words net (binds.NotLatch word place) = binding.NotLatch (word_name words word) place
of_binding words net (binds.NetTwice n) = binding.NetTwice (text_of net n)
of_binding words net (binds.FeedNotFree line) = binding.FeedNotFree line
of_binding words net (binds.Uncovered n) = binding.Uncovered (text_of net n)
of_binding words net (binds.UnknownStart n) = binding.UnknownStart (text_of net n)
of_binding words net binds.OutOfMemory = binding.NetTwice []

-- A fault of a text in ASCII AIGER as a fault of the netlist.
abbrev pub of_aiger : AigerFault → NetlistFault
of_aiger (aigers.Syntax line) = netlist.Syntax line
of_aiger (aigers.LeftOut line word) = netlist.LeftOut line word
of_aiger (aigers.Literal line) = netlist.Literal line
of_aiger (aigers.DefinedTwice line) = netlist.DefinedTwice line
of_aiger (aigers.Undefined line) = netlist.Undefined line
of_aiger (aigers.NameTwice line) = netlist.NameTwice line
of_aiger (aigers.Net fault) = of_net fault
of_aiger aigers.OutOfMemory = netlist.TooManyNets

-- A fault of a text in structural Verilog as a fault of the netlist.
abbrev pub of_verilog : VerilogFault → NetlistFault
of_verilog (verilogs.Syntax line) = netlist.Syntax line
of_verilog (verilogs.LeftOut line word) = netlist.LeftOut line word
of_verilog (verilogs.Undeclared line) = netlist.Undeclared line
of_verilog (verilogs.OutOfRange line) = netlist.OutOfRange line
of_verilog (verilogs.Redeclared line) = netlist.Redeclared line
of_verilog (verilogs.Arity line inputs) = netlist.TooWide line inputs
of_verilog (verilogs.Net fault) = of_net fault
of_verilog verilogs.OutOfMemory = netlist.TooManyNets

-- the text of a netlist, by its form
pub data NetlistText : Type 0 where
  Blif : (text : List ℕ) → NetlistText
  Verilog : (text : List ℕ) → NetlistText
  Aiger : (text : List ℕ) → NetlistText

-- the form of a text is told by the ending of its file's name
abbrev pub by_ending : Word → List ℕ → NetlistText
by_ending file text = if is_aiger file then Aiger text else (if is_verilog file then Verilog text else Blif text)

-- the net of the first model of a text in BLIF: the text's first fault, or else the net's
abbrev pub BlifNetOf : List ℕ → Outcome NetlistFault NetList
BlifNetOf text = do
  design ← Within of_text (BlifDesign text)
  Within of_model (Flattens design 0)

-- the net of a text, as the reader of its form gives it
abbrev pub NetOf : NetlistText → Outcome NetlistFault NetList
NetOf (Blif text) = BlifNetOf text
NetOf (Verilog text) = Within of_verilog (VerilogNet text)
NetOf (Aiger text) = Within of_aiger (AigerNet text)

-- the net with the words and feeds that are bound to it, or the first fault of the binding
abbrev pub WordsBound : List WordText → List FeedText → NetList → Outcome NetlistFault BoundNet
WordsBound words feeds net = do
  bound ← Within (λ fault. netlist.Binding (of_binding words net fault)) (BindingOf net words feeds)
  Exactly (record { net = net; binding = bound })

-- The net of a text with the words and feeds of a signature bound to it: the text, its net, and the binding, of which the
-- first fault counts.
abbrev pub BoundNetOf : SignatureValue → NetlistText → Outcome NetlistFault BoundNet
BoundNetOf signature text = do
  net ← NetOf text
  WordsBound signature.words signature.feeds net

-- the net of a file with the words and feeds that are bound to it: the file is read, and its netlist taken
abbrev pub NetlistIn : Option Files → SignatureValue → Word → Outcome Fault BoundNet
NetlistIn held signature file = do
  text ← Within File (Read held file)
  Within (Netlist file) (BoundNetOf signature (by_ending file text))
