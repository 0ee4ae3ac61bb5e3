-- The texts of faults of netlists and of bindings. Source: this project's own texts, docs/COMMANDS.md.
use Rattle.std.specs.Prelude.{ℕ, List, ◌++◌, codes}
use Rattle.std.specs.Fmt.{decimal}
use Rattle.job_words.specs.declared.netlist_fault.BindingFault.{BindingFault}
use Rattle.job_words.specs.declared.netlist_fault.BindingFault.TheVariants as binding
use Rattle.job_words.specs.declared.netlist_fault.NetlistFault.{NetlistFault}
use Rattle.job_words.specs.declared.netlist_fault.NetlistFault.TheVariants as netlist

-- `W[i]` for bit i of word W, and what stands behind it
abbrev pub place_text : List ℕ → ℕ → List ℕ → List ℕ
place_text word place rest = word ++ (codes "[" ++ (decimal place ++ (codes "]" ++ rest)))

-- the number and the text of a fault of a binding
abbrev pub binding_text : BindingFault → List ℕ
binding_text (binding.NoSuchNet word place) = codes "39: no net for " ++ place_text word place (codes "")
binding_text (binding.NotInput word place) = codes "39: " ++ place_text word place (codes " is no input")
binding_text (binding.NotLatch word place) = codes "39: " ++ place_text word place (codes " is no latch")
binding_text (binding.NetTwice label) = codes "39: net " ++ (label ++ codes " stands twice")
binding_text (binding.FeedNotFree line) = codes "13: feed at line " ++ (decimal line ++ codes " is no free input")
binding_text (binding.Uncovered label) = codes "39: input " ++ (label ++ codes " is in no word")
binding_text (binding.UnknownStart label) = codes "39: latch " ++ (label ++ codes " has no start")

-- the number and the text of a netlist's fault, without its file
abbrev pub netlist_text : NetlistFault → List ℕ
netlist_text (netlist.Syntax line) = codes "30: netlist line " ++ decimal line
netlist_text (netlist.LeftOut line word) = codes "31: " ++ (word ++ (codes " at line " ++ decimal line))
netlist_text netlist.NoModel = codes "32: no model"
netlist_text (netlist.ModelTwice line) = codes "32: model twice at line " ++ decimal line
netlist_text (netlist.NoSuchModel line) = codes "32: no such model at line " ++ decimal line
netlist_text (netlist.NoSuchFormal line) = codes "32: no such formal at line " ++ decimal line
netlist_text (netlist.FormalTwice line) = codes "32: formal twice at line " ++ decimal line
netlist_text (netlist.FormalMissing line) = codes "32: formal missing at line " ++ decimal line
netlist_text (netlist.Recursive model) = codes "32: model " ++ (model ++ codes " contains itself")
netlist_text netlist.TooDeep = codes "32: more than 64 models deep"
netlist_text (netlist.Undeclared line) = codes "33: undeclared at line " ++ decimal line
netlist_text (netlist.OutOfRange line) = codes "33: index at line " ++ decimal line
netlist_text (netlist.Redeclared line) = codes "33: redeclared at line " ++ decimal line
netlist_text (netlist.DrivenTwice label) = codes "34: net " ++ (label ++ codes " is driven twice")
netlist_text (netlist.Undriven label) = codes "35: net " ++ (label ++ codes " is not driven")
netlist_text (netlist.Loop count label) = (codes "36: loop of " ++ (decimal count ++ codes " nets through ")) ++ label
netlist_text (netlist.TooWide line inputs) = codes "37: " ++ (decimal inputs ++ (codes " inputs at line " ++ decimal line))
netlist_text netlist.TooManyNets = codes "38: too many nets"
netlist_text netlist.TooManyGates = codes "38: too many gates"
netlist_text netlist.TooManyInstances = codes "38: too many instances"
netlist_text (netlist.Literal line) = codes "46: literal at line " ++ decimal line
netlist_text (netlist.DefinedTwice line) = codes "46: defined twice at line " ++ decimal line
netlist_text (netlist.Undefined line) = codes "46: undefined at line " ++ decimal line
netlist_text (netlist.NameTwice line) = codes "46: name twice at line " ++ decimal line
netlist_text (netlist.Binding fault) = binding_text fault
