-- Circuits whose net lists are simplified. Source: this project's own.
use Rattle.std.specs.Prelude.{◌≡◌, ◌↔◌, ℕ, List}
use Rattle.net_core.specs.NetList.{NetList}
use Rattle.net_core.specs.Order.{IsLevelOrder}
use Rattle.net_core.specs.Sound.{IsSound}
use Rattle.net_words.specs.Binding.{BoundNet}
use Rattle.net_words.specs.BoundTo.{output_bits}
use Rattle.net_words.specs.OneCycle.{IsOneCycle}
use Rattle.circuit_model.specs.OfBinding.{circuit_with}
use Rattle.circuit_model.specs.Out.{IsOut}
use Rattle.net_simplify.specs.Simplified.{IsSimplifiedTwice}

-- the net list, simplified twice for the bits of the output word, with the same words
pub record IsSimplifiedCircuit (circuit simple : BoundNet) : Type 0 where
  pub net : IsSimplifiedTwice (output_bits circuit.binding.words) circuit.net simple.net
  pub binding : simple.binding ≡ circuit.binding

-- the words of the circuit are bound to its net list in one cycle
abbrev pub IsInOneCycle : BoundNet → Type 0
IsInOneCycle circuit = IsOneCycle circuit.net circuit.binding

-- at each input, over whatever field and bases, the one has the outputs of the other and no more
abbrev pub HaveSameOutputs : BoundNet → BoundNet → Type 0
HaveSameOutputs circuit simple = (k : ℕ) (product : ℕ → ℕ → ℕ) (bases : List (List ℕ)) (xs : List ℕ) (e : ℕ) → IsOut (circuit_with k product simple bases) xs e ↔ IsOut (circuit_with k product circuit bases) xs e

-- the gates of each sound net list have an order
abbrev pub EachHasAnOrder : Type 0
EachHasAnOrder = (net : NetList) → IsSound net → (order : List ℕ) × IsLevelOrder net order
