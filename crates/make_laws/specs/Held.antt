-- What latches hold from cycle to cycle, and bits by place. Source: the latches of the BLIF format of UC Berkeley.
use Rattle.std.specs.Prelude.{◌≡◌, ℕ, ◌<◌, ◌^◌, Bool, List, [], ◌∷◌, get_or}
use Rattle.lists.specs.Lists.{Has}
use Rattle.net_core.specs.LatchValue.{LatchValue}
use Rattle.net_core.specs.NetList.{NetList}
use Rattle.net_core.specs.Value.{bit_of}
use Rattle.net_core.specs.declared.latch.Start.TheVariants.{Zero}
use Rattle.circuit_model.specs.Circuit.{Circuit}
use Rattle.circuit_model.specs.Out.{IsOut}

-- the net at this place of a list
abbrev pub net_at : List ℕ → ℕ → ℕ
net_at nets i = get_or nets i 0

-- the bit of the net at this place of a list
abbrev pub bit_at_place : List Bool → List ℕ → ℕ → Bool
bit_at_place bits nets i = bit_of bits (net_at nets i)

-- a latch gives `out` the bit that `next` had the cycle before
pub record IsHeld (net : NetList) (next out : ℕ) : Type 0 where
  pub latch : LatchValue
  pub has : Has net.latches latch
  pub next_is : latch.next ≡ next
  pub out_is : latch.out ≡ out

-- and gives it the bit 0 in the first cycle
pub record IsHeldFromZero (net : NetList) (next out : ℕ) : Type 0 where
  pub latch : LatchValue
  pub has : Has net.latches latch
  pub next_is : latch.next ≡ next
  pub out_is : latch.out ≡ out
  pub start : latch.start ≡ Zero

-- the job of two words gives their product
abbrev pub Multiplies : Circuit → Type 0
Multiplies circuit = (a b : ℕ) → a < 2 ^ circuit.k → b < 2 ^ circuit.k → IsOut circuit (a ∷ b ∷ []) (circuit.product a b)
