-- Net lists that are the same but for the numbers of their nets. Source: this project's own.
use Rattle.std.specs.Prelude.{◌≡◌, ℕ, ◌<◌, List, map}
use Rattle.std.specs.Option.{option_map}
use Rattle.net_core.specs.GateValue.{GateValue}
use Rattle.net_core.specs.LatchValue.{LatchValue}
use Rattle.net_core.specs.NetList.{NetList, nets, number_of}

-- a gate and a latch, each net n of which gets the number f n
abbrev pub gate_under : (ℕ → ℕ) → GateValue → GateValue
gate_under f g = record { out = f g.out; inputs = map f g.inputs; table = g.table }

abbrev pub latch_under : (ℕ → ℕ) → LatchValue → LatchValue
latch_under f l = record { next = f l.next; out = f l.out; start = l.start }

-- Net n of the first net list is net f n of the second: f meets each net of the second once, nets are found by the same names,
-- and the same inputs, outputs, latches and gates stand on them.
pub record IsRenumbering (f : ℕ → ℕ) (from to : NetList) : Type 0 where
  pub below : (n : ℕ) → n < nets from → f n < nets to
  pub apart : (m n : ℕ) → m < nets from → n < nets from → f m ≡ f n → m ≡ n
  pub onto : (n : ℕ) → n < nets to → (m : ℕ) × (m < nets from) × (f m ≡ n)
  pub names : (name : List ℕ) → number_of to name ≡ option_map f (number_of from name)
  pub inputs : to.inputs ≡ map f from.inputs
  pub outputs : to.outputs ≡ map f from.outputs
  pub latches : to.latches ≡ map (latch_under f) from.latches
  pub gates : to.gates ≡ map (gate_under f) from.gates
