-- Some net with its binding, or some fault, comes of a netlist.
use Rattle.std.proofs.Common.{◌≡◌, refl, ℕ, Bool, true, false, List, [], length, Option, None, Some, Result, Ok, Err, arith}
use Rattle.std.specs.Prelude.{nat_le}
use Rattle.std.specs.FinMap.{get}
use Rattle.std.proofs.lemmas.Bool.{leb-false, leb-true}
use Rattle.lists.specs.Limits.{most_bytes}
use Rattle.outcome.specs.Outcome.{Exactly, Within}
use Rattle.outcome.proofs.SomeLemmas.{some_bind, some_exactly, some_within}
use Rattle.job_io.specs.Shelf.{Files}
use Rattle.net_core.specs.NetList.{NetList}
use Rattle.net_aiger.specs.AigerNet.{AigerNet}
use Rattle.reader_laws.proofs.AigerExists.{some_net}
use Rattle.verilog_reader.specs.Modules.{VerilogNet}
use Rattle.reader_laws.proofs.VerilogExists.{some_verilog}
use Rattle.net_flat.specs.Flat.{Flattens}
use Rattle.reader_laws.proofs.FlatExists.{some_flat}
use Rattle.net_blif.specs.Models.{BlifDesign}
use Rattle.reader_laws.proofs.BlifExists.{some_design}
use Rattle.reader_laws.proofs.BlifSound.{sound_design}
use Rattle.net_words.specs.Bind.{BindingOf}
use Rattle.net_words.specs.Binding.{Binding, BoundNet}
use Rattle.net_words.specs.declared.binding.BindFault.{BindFault}
use Rattle.net_words.specs.declared.feed.FeedText.{FeedText}
use Rattle.net_words.specs.declared.word.WordText.{WordText}
use Rattle.reader_laws.proofs.BindingExists.{some_binding}
use Rattle.net_signature.specs.Signature.{SignatureValue}
use Rattle.job_words.specs.Operands.{Word}
use Rattle.job_words.specs.declared.fault.Fault.{Fault}
use Rattle.job_words.specs.declared.fault.Fault.TheVariants.{File, Netlist}
use Rattle.job_words.specs.declared.file_fault.FileFault.{FileFault}
use Rattle.job_words.specs.declared.file_fault.FileFault.TheVariants.{Absent, TooLong}
use Rattle.job_words.specs.declared.netlist_fault.NetlistFault.{NetlistFault}
use Rattle.job_words.specs.declared.netlist_fault.NetlistFault.TheVariants as netlist
use Rattle.job_input.specs.File.{Read}
use Rattle.job_input.specs.NetlistOf.{by_ending, of_aiger, of_binding, of_model, of_text, of_verilog, Aiger, Blif, BlifNetOf, BoundNetOf, NetOf, NetlistIn, NetlistText, Verilog, WordsBound}

-- a file is read or refused, also where the shelf does not tell what it holds
pub some_read : (held : Option Files) (name : Word) → (outcome : Result (List ℕ) FileFault) × Read held name outcome
some_read None name = (Ok [], (tt, omega arith))
some_read (Some files) name = by (get files name) refl
  where
    long : (bytes : List ℕ) → get files name ≡ Some bytes → (b : Bool) → nat_le (length bytes) most_bytes ≡ b → (outcome : Result (List ℕ) FileFault) × Read (Some files) name outcome
    long bytes at true fits = (Ok bytes, (at, leb-true (length bytes) most_bytes fits))
    long bytes at false fits = (Err (TooLong name), (refl, (bytes, at, leb-false (length bytes) most_bytes fits)))

    by : (found : Option (List ℕ)) → get files name ≡ found → (outcome : Result (List ℕ) FileFault) × Read (Some files) name outcome
    by None at = (Err (Absent name), (refl, at))
    by (Some bytes) at = long bytes at (nat_le (length bytes) most_bytes) refl

some_blif : (text : List ℕ) → (outcome : Result NetList NetlistFault) × BlifNetOf text outcome
some_blif text =
    some_bind (Within of_text (BlifDesign text)) (λ design. Within of_model (Flattens design 0)) (some_within of_text (BlifDesign text) (some_design text))
    (λ design read. some_within of_model (Flattens design 0) (some_flat design 0 (sound_design text design read)))

-- ---- the binding

abbrev named : List WordText → NetList → BindFault → NetlistFault
named words net fault = netlist.Binding (of_binding words net fault)

abbrev with_words : NetList → Binding → BoundNet
with_words net bound = record { net = net; binding = bound }

pub some_bound : (words : List WordText) (feeds : List FeedText) (net : NetList) → (outcome : Result BoundNet NetlistFault) × WordsBound words feeds net outcome
some_bound words feeds net =
    some_bind (Within (named words net) (BindingOf net words feeds)) (λ bound. Exactly (with_words net bound)) (some_within (named words net) (BindingOf net words feeds) (some_binding net words feeds)) (λ bound may. some_exactly (with_words net bound))

-- a text of whose reading something comes
module _ (signature : SignatureValue) (text : NetlistText) (some : (outcome : Result NetList NetlistFault) × NetOf text outcome) where
  some_bound_of : (outcome : Result BoundNet NetlistFault) × BoundNetOf signature text outcome
  some_bound_of = some_bind (NetOf text) (λ net. WordsBound signature.words signature.feeds net) some (λ net may. some_bound signature.words signature.feeds net)

-- ---- each netlist

pub some_netlist : (signature : SignatureValue) (text : NetlistText) → (outcome : Result BoundNet NetlistFault) × BoundNetOf signature text outcome
some_netlist signature (Blif text) = some_bound_of signature (Blif text) (some_blif text)
some_netlist signature (Aiger text) = some_bound_of signature (Aiger text) (some_within of_aiger (AigerNet text) (some_net text))
some_netlist signature (Verilog text) = some_bound_of signature (Verilog text) (some_within of_verilog (VerilogNet text) (some_verilog text))

pub some_netlist_in : (held : Option Files) (signature : SignatureValue) (file : Word) → (outcome : Result BoundNet Fault) × NetlistIn held signature file outcome
some_netlist_in held signature file =
    some_bind (Within File (Read held file)) (λ text. Within (Netlist file) (BoundNetOf signature (by_ending file text))) (some_within File (Read held file) (some_read held file))
    (λ text may. some_within (Netlist file) (BoundNetOf signature (by_ending file text)) (some_netlist signature (by_ending file text)))
