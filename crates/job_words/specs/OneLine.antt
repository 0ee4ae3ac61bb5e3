-- Faults that keep to one line. Source: this project's own, docs/COMMANDS.md.
use Rattle.std.specs.Prelude.{◌≡◌, ◌≢◌, ℕ, List, [], ◌∷◌, ◌++◌, All, codes, Err}
use Rattle.std.specs.List.{AllByRecursion}
use Rattle.outcome.specs.Outcome.{Outcome}
use Rattle.job_words.specs.Operands.{Word}
use Rattle.job_words.specs.declared.fault.Fault.{Fault}
use Rattle.job_words.specs.declared.fault.Fault.TheVariants as faults
use Rattle.job_words.specs.declared.composition_fault.CompositionFault.{CompositionFault}
use Rattle.job_words.specs.declared.composition_fault.CompositionFault.TheVariants as composition
use Rattle.job_words.specs.declared.file_fault.FileFault.{FileFault}
use Rattle.job_words.specs.declared.file_fault.FileFault.TheVariants as file
use Rattle.job_words.specs.declared.netlist_fault.BindingFault.{BindingFault}
use Rattle.job_words.specs.declared.netlist_fault.BindingFault.TheVariants as binding
use Rattle.job_words.specs.declared.netlist_fault.NetlistFault.{NetlistFault}
use Rattle.job_words.specs.declared.netlist_fault.NetlistFault.TheVariants as netlist
use Rattle.job_words.specs.declared.signature_fault.SignatureFault.{SignatureFault}
use Rattle.job_words.specs.declared.signature_fault.SignatureFault.TheVariants as signature

-- no line feed is among the bytes
abbrev pub HasNoLineFeed : List ℕ → Type 0
HasNoLineFeed bytes = All (λ b. b ≢ 10) bytes

-- the text ends with its only line feed
pub record IsOneLine (text : List ℕ) : Type 0 where
  pub before : List ℕ
  pub ends : text ≡ before ++ codes "\n"
  pub only : HasNoLineFeed before

-- what a file's fault repeats of the words
abbrev pub repeated_of_file : FileFault → List Word
repeated_of_file (file.Absent name) = name ∷ []
repeated_of_file (file.TooLong name) = name ∷ []

-- what a signature's fault repeats of the signature
abbrev pub repeated_of_signature : SignatureFault → List Word
repeated_of_signature (signature.NoOutputInBlock model) = model ∷ []
repeated_of_signature fault = []

-- what a binding's fault repeats of the signature and the netlist
abbrev pub repeated_of_binding : BindingFault → List Word
repeated_of_binding (binding.NoSuchNet word place) = word ∷ []
repeated_of_binding (binding.NotInput word place) = word ∷ []
repeated_of_binding (binding.NotLatch word place) = word ∷ []
repeated_of_binding (binding.NetTwice label) = label ∷ []
repeated_of_binding (binding.FeedNotFree line) = []
repeated_of_binding (binding.Uncovered label) = label ∷ []
repeated_of_binding (binding.UnknownStart label) = label ∷ []

-- what a netlist's fault repeats of the netlist, and of the signature where it is the binding's
abbrev pub repeated_of_netlist : NetlistFault → List Word
repeated_of_netlist (netlist.LeftOut line word) = word ∷ []
repeated_of_netlist (netlist.Recursive model) = model ∷ []
repeated_of_netlist (netlist.DrivenTwice label) = label ∷ []
repeated_of_netlist (netlist.Undriven label) = label ∷ []
repeated_of_netlist (netlist.Loop count label) = label ∷ []
repeated_of_netlist (netlist.Binding fault) = repeated_of_binding fault
repeated_of_netlist fault = []

-- what a composition's fault repeats of the netlist and the signature
abbrev pub repeated_of_composition : CompositionFault → List Word
repeated_of_composition (composition.NoBlock model) = model ∷ []
repeated_of_composition (composition.BlockNet model) = model ∷ []
repeated_of_composition (composition.BlockLatch model) = model ∷ []
repeated_of_composition (composition.BlockBind model) = model ∷ []
repeated_of_composition (composition.NotWords instance word) = word ∷ []
repeated_of_composition fault = []

-- what a fault repeats of words and files: all else in its line is the program's own
abbrev pub repeated : Fault → List Word
repeated (faults.File fault) = repeated_of_file fault
repeated (faults.Signature fault) = repeated_of_signature fault
repeated (faults.Netlist name fault) = name ∷ repeated_of_netlist fault
repeated (faults.SecondSignature fault) = repeated_of_signature fault
repeated (faults.Composition fault) = repeated_of_composition fault
repeated (faults.Stage fault) = fault.stage ∷ []
repeated fault = []

-- nothing that a fault repeats has a line feed
abbrev pub KeepsToItsLine : Fault → Type 0
KeepsToItsLine fault = AllByRecursion HasNoLineFeed (repeated fault)

-- where the name of a file has no line feed, each fault that may come of it keeps to its line
abbrev pub FaultsKeepToTheirLine : {A : Type 0} → Word → Outcome Fault A → Type 0
FaultsKeepToTheirLine name outcome = HasNoLineFeed name → (fault : Fault) → outcome (Err fault) → KeepsToItsLine fault
