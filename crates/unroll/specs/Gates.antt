-- The gates of all cycles of a net list with bound words. Source: this project's own.
use Rattle.std.specs.Prelude.{ℕ, zero, suc, ◌+◌, not, Bool, List, [], ◌∷◌, ◌++◌, filter, map, if◌then◌else◌}
use Rattle.net_core.specs.GateValue.{GateValue}
use Rattle.net_core.specs.LatchValue.{LatchValue}
use Rattle.net_core.specs.NetList.{NetList, nets}
use Rattle.net_core.specs.declared.latch.Start.{Start}
use Rattle.net_core.specs.declared.latch.Start.TheVariants as starts
use Rattle.net_words.specs.Binding.{Binding}
use Rattle.net_words.specs.Feeds.{is_fed}
use Rattle.net_words.specs.Roles.{in_word}
use Rattle.net_words.specs.declared.feed.Source.{Source}
use Rattle.net_words.specs.declared.feed.Source.TheVariants.{Zero, One, Bit}
use Rattle.net_words.specs.declared.word.Role.TheVariants.{State}
use Rattle.unroll.specs.Places.{net_at, cycle_nets, first_bit}
use Rattle.unroll.specs.Sources.{source_at}

-- a gate whose output has the bit of its only input
abbrev pub buffer : ℕ → ℕ → GateValue
buffer out from = record { out = out; inputs = from ∷ []; table = 2 }

-- a gate without inputs, whose output is bit 0 of its table
abbrev pub constant : ℕ → ℕ → GateValue
constant out bit = record { out = out; inputs = []; table = bit }

-- the gate in cycle t
abbrev pub gate_at : ℕ → ℕ → GateValue → GateValue
gate_at v t gate = record { out = net_at v t gate.out; inputs = map (net_at v t) gate.inputs; table = gate.table }

-- the net of a bit of a fed word
abbrev pub bit_net : NetList → Binding → ℕ → ℕ → ℕ → ℕ
bit_net net binding c w place = first_bit binding.k (cycle_nets (nets net) c) binding.words w + place

-- a gate that gives a net the bit of a source
abbrev pub source_gate : NetList → Binding → ℕ → ℕ → Source → GateValue
source_gate net binding c out Zero = constant out 0
source_gate net binding c out One = constant out 1
source_gate net binding c out (Bit w place) = buffer out (bit_net net binding c w place)

-- the feeding gate of a fed net in cycle t
abbrev pub feeding_gate : NetList → Binding → ℕ → ℕ → ℕ → GateValue
feeding_gate net binding c t n = source_gate net binding c (net_at (nets net) t n) (source_at binding.feeds n t)

-- what gives a primary input its bit in a later cycle: its feeding gate if it is fed, else a buffer from the first cycle
abbrev pub input_gate : NetList → Binding → ℕ → ℕ → ℕ → GateValue
input_gate net binding c t n = if is_fed binding.feeds n then feeding_gate net binding c t n else buffer (net_at (nets net) t n) n

-- what gives a latch its bit in cycle t + 1: a buffer from its `next` in cycle t
abbrev pub latch_gate : ℕ → ℕ → LatchValue → GateValue
latch_gate v t latch = buffer (net_at v (t + 1) latch.out) (net_at v t latch.next)

-- the bit of a start; an unknown one does not come, since such a latch is in a state word
abbrev pub start_bit : Start → ℕ
start_bit starts.Zero = 0
start_bit starts.One = 1
start_bit starts.Unknown = 0

-- a gate without inputs with the latch's start
abbrev pub start_gate : LatchValue → GateValue
start_gate latch = constant latch.out (start_bit latch.start)

-- the output of the latch is in a state word
abbrev pub is_held : Binding → LatchValue → Bool
is_held binding latch = in_word State binding.words latch.out

-- the feeding gates in the first cycle of those of these primary inputs that are fed
abbrev pub feeding_gates : NetList → Binding → ℕ → List ℕ → List GateValue
feeding_gates net binding c inputs = map (feeding_gate net binding c 0) (filter (is_fed binding.feeds) inputs)

-- the starts of those of these latches that are in no state word
abbrev pub start_gates : Binding → List LatchValue → List GateValue
start_gates binding latches = map start_gate (filter (λ latch. not (is_held binding latch)) latches)

-- The gates of the first cycle: feeding gates of the fed nets in the order of the primary inputs, a start for each latch in
-- no state word, and the gates.
abbrev pub first_gates : NetList → Binding → ℕ → List GateValue
first_gates net binding c = feeding_gates net binding c net.inputs ++ (start_gates binding net.latches ++ map (gate_at (nets net) 0) net.gates)

-- the gates of cycle t + 1: one for each primary input, one for each latch, and the gates
abbrev pub next_gates : NetList → Binding → ℕ → ℕ → List GateValue
next_gates net binding c t = map (input_gate net binding c (t + 1)) net.inputs ++ (map (latch_gate (nets net) t) net.latches ++ map (gate_at (nets net) (t + 1)) net.gates)

-- the gates of the cycles from 0 to t
abbrev pub gates_to : NetList → Binding → ℕ → ℕ → List GateValue
gates_to net binding c zero = first_gates net binding c
gates_to net binding c (suc t) = gates_to net binding c t ++ next_gates net binding c t
