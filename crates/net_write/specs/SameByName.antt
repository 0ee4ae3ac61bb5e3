-- Nets that are the same but for the numbers of their nets. Source: this project's own.
use Rattle.std.specs.Prelude.{◌≡◌, ℕ, List, map}
use Rattle.net_core.specs.GateValue.{GateValue}
use Rattle.net_core.specs.LatchValue.{LatchValue}
use Rattle.net_core.specs.NetList.{NetList, text_of}
use Rattle.net_core.specs.declared.latch.Start.{Start}
use Rattle.net_write.specs.Written.{names_of}

-- a gate by the names of its nets
pub record NamedGate : Type 0 where
  pub out : List ℕ
  pub inputs : List (List ℕ)
  pub table : ℕ

-- a latch by the names of its nets
pub record NamedLatch : Type 0 where
  pub next : List ℕ
  pub out : List ℕ
  pub start : Start

abbrev pub named_gate : NetList → GateValue → NamedGate
named_gate net gate = record { out = text_of net gate.out; inputs = names_of net gate.inputs; table = gate.table }

abbrev pub named_latch : NetList → LatchValue → NamedLatch
named_latch net latch = record { next = text_of net latch.next; out = text_of net latch.out; start = latch.start }

-- both have the same inputs, outputs, latches and gates, by name and in the same order
pub record IsSameByName (net other : NetList) : Type 0 where
  pub inputs : names_of other other.inputs ≡ names_of net net.inputs
  pub outputs : names_of other other.outputs ≡ names_of net net.outputs
  pub latches : map (named_latch other) other.latches ≡ map (named_latch net) net.latches
  pub gates : map (named_gate other) other.gates ≡ map (named_gate net) net.gates
