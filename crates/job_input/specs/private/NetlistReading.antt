-- What is known while a netlist is read: for the clauses of private functions. Source: this project's own.
use Rattle.std.specs.Prelude.{◌≡◌, ℕ, ◌<◌, Option, None, Some, Result}
use Rattle.outcome.specs.Outcome.{Outcome, Fits}
use Rattle.net_core.specs.NetList.{NetList, nets as net_count}
use Rattle.net_core.specs.declared.fault.NetFault.{NetFault}
use Rattle.net_core.specs.declared.fault.NetFault.TheVariants as nets
use Rattle.net_aiger.specs.declared.fault.AigerFault.{AigerFault}
use Rattle.net_aiger.specs.declared.fault.AigerFault.TheVariants as aigers
use Rattle.net_verilog.specs.declared.fault.VerilogFault.{VerilogFault}
use Rattle.net_verilog.specs.declared.fault.VerilogFault.TheVariants as verilogs
use Rattle.net_blif.specs.declared.fault.BlifFault.{BlifFault}
use Rattle.net_blif.specs.declared.fault.BlifFault.TheVariants as texts
use Rattle.net_flat.specs.declared.flat_fault.FlatFault.{FlatFault}
use Rattle.net_flat.specs.declared.flat_fault.FlatFault.TheVariants as flats
use Rattle.unroll.specs.declared.fault.UnrollFault.{UnrollFault}
use Rattle.unroll.specs.declared.fault.UnrollFault.TheVariants as unrolls
use Rattle.net_words.specs.declared.binding.BindFault.{BindFault}
use Rattle.net_words.specs.declared.binding.BindFault.TheVariants as binds
use Rattle.job_words.specs.declared.netlist_fault.NetlistFault.{NetlistFault}
use Rattle.job_words.specs.declared.netlist_fault.NetlistFault.TheVariants as netlist
use Rattle.job_input.specs.NetlistOf.{of_model, of_aiger, of_text, of_net, of_verilog}
use Rattle.job_input.specs.declared.netlist.Refusal.{Refusal}
use Rattle.job_input.specs.declared.netlist.Refusal.TheVariants.{Fault, OutOfMemory}

-- the fault of a refusal; out of memory is none
abbrev pub fault_in : Refusal → Option NetlistFault
fault_in (Fault fault) = Some fault
fault_in OutOfMemory = None

-- the value or the fault is one that may come; out of memory may always come
abbrev pub FitsNetlist : {A : Type 0} → Result A Refusal → Outcome NetlistFault A → Type 0
FitsNetlist result outcome = Fits fault_in (λ value. value) result outcome

-- it is this fault, or memory is wanted
abbrev pub IsNetlistRefusal : NetlistFault → Refusal → Type 0
IsNetlistRefusal fault (Fault other) = other ≡ fault
IsNetlistRefusal fault OutOfMemory = Unit {0}

-- the refusal of a text
abbrev pub text_refusal : BlifFault → Refusal
text_refusal texts.OutOfMemory = OutOfMemory
text_refusal fault = Fault (of_text fault)

-- the refusal of a net list
abbrev pub net_refusal : NetFault → Refusal
net_refusal nets.OutOfMemory = OutOfMemory
net_refusal fault = Fault (of_net fault)

-- the refusal of a model's net
abbrev pub model_refusal : FlatFault → Refusal
model_refusal (flats.Net fault) = net_refusal fault
model_refusal flats.TooManyInstances = Fault (of_model flats.TooManyInstances)
model_refusal flats.OutOfMemory = OutOfMemory

-- the refusal of a text in ASCII AIGER
abbrev pub aiger_refusal : AigerFault → Refusal
aiger_refusal aigers.OutOfMemory = OutOfMemory
aiger_refusal (aigers.Net fault) = net_refusal fault
aiger_refusal fault = Fault (of_aiger fault)

-- the refusal of a text in structural Verilog
abbrev pub verilog_refusal : VerilogFault → Refusal
verilog_refusal verilogs.OutOfMemory = OutOfMemory
verilog_refusal (verilogs.Net fault) = net_refusal fault
verilog_refusal fault = Fault (of_verilog fault)

-- the refusal of all cycles
abbrev pub unroll_refusal : UnrollFault → Refusal
unroll_refusal unrolls.TooManyNets = Fault netlist.TooManyNets
unroll_refusal unrolls.TooManyGates = Fault netlist.TooManyGates
unroll_refusal unrolls.OutOfMemory = OutOfMemory

-- the word of a fault of a binding is one of so many words, and its net one of the net list
abbrev pub IsNamed : ℕ → NetList → BindFault → Type 0
IsNamed count net (binds.NoSuchNet word place) = word < count
IsNamed count net (binds.NotInput word place) = word < count
IsNamed count net (binds.NotLatch word place) = word < count
IsNamed count net (binds.NetTwice n) = n < net_count net
IsNamed count net (binds.FeedNotFree line) = Unit {0}
IsNamed count net (binds.Uncovered n) = n < net_count net
IsNamed count net (binds.UnknownStart n) = n < net_count net
IsNamed count net binds.OutOfMemory = Unit {0}
