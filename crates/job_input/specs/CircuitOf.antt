-- All cycles of a netlist as one circuit, or the fault with which it is refused. Source: this project's own, docs/DEFINITIONS.md.
use Rattle.std.specs.Prelude.{◌≡◌, ◌⊎◌, ℕ, ◌<◌, ◌≤◌, Option, length, Ok, Err}
use Rattle.lists.specs.Limits.{most_nets}
use Rattle.outcome.specs.Outcome.{Outcome, ◌>>=◌, Within}
use Rattle.job_io.specs.Shelf.{Files}
use Rattle.net_core.specs.NetList.{nets}
use Rattle.net_words.specs.Binding.{BoundNet}
use Rattle.net_signature.specs.Signature.{SignatureValue}
use Rattle.unroll.specs.Unrolled.{unrolled}
use Rattle.job_words.specs.Operands.{Word}
use Rattle.job_words.specs.declared.fault.Fault.{Fault}
use Rattle.job_words.specs.declared.fault.Fault.TheVariants.{Netlist}
use Rattle.job_words.specs.declared.netlist_fault.NetlistFault.{NetlistFault}
use Rattle.job_words.specs.declared.netlist_fault.NetlistFault.TheVariants.{TooManyNets, TooManyGates}
use Rattle.job_input.specs.NetlistOf.{BoundNetOf, NetlistIn, NetlistText}

-- the circuit of a net with bound words and feeds, over so many cycles after the first
unfoldable pub all_cycles : BoundNet → ℕ → BoundNet
all_cycles netlist cycles = unrolled netlist.net netlist.binding cycles

-- this circuit where it has at most 1,048,576 nets and gates; its nets are counted first
abbrev pub CircuitOf : BoundNet → ℕ → Outcome NetlistFault BoundNet
CircuitOf netlist cycles (Ok circuit) = (circuit ≡ all_cycles netlist cycles) × (nets (all_cycles netlist cycles).net ≤ most_nets) × (length (all_cycles netlist cycles).net.gates ≤ most_nets)
CircuitOf netlist cycles (Err fault) =
    ((fault ≡ TooManyNets) × (most_nets < nets (all_cycles netlist cycles).net))
    ⊎ ((fault ≡ TooManyGates) × (nets (all_cycles netlist cycles).net ≤ most_nets) × (most_nets < length (all_cycles netlist cycles).net.gates))

-- the circuit of the netlist in a file
abbrev pub UnrolledIn : Word → BoundNet → ℕ → Outcome Fault BoundNet
UnrolledIn file netlist cycles = Within (Netlist file) (CircuitOf netlist cycles)

-- the circuit of a file: its netlist is taken, and then its cycles are unrolled
abbrev pub CircuitIn : Option Files → SignatureValue → Word → ℕ → Outcome Fault BoundNet
CircuitIn held signature file cycles = do
  netlist ← NetlistIn held signature file
  UnrolledIn file netlist cycles

-- the circuit of a netlist's text: the text is taken, and then its cycles are unrolled
abbrev pub CircuitOfText : SignatureValue → NetlistText → ℕ → Outcome NetlistFault BoundNet
CircuitOfText signature text cycles = do
  netlist ← BoundNetOf signature text
  CircuitOf netlist cycles
