-- What nets are drawn from. Source: the gates and latches of the BLIF format of UC Berkeley.
use Rattle.std.specs.Prelude.{◌≡◌, ◌⊎◌, ℕ, List}
use Rattle.lists.specs.Lists.{Has}
use Rattle.graph_core.specs.Walk.{IsChain}
use Rattle.net_core.specs.LatchValue.{LatchValue}
use Rattle.net_core.specs.NetList.{NetList}
use Rattle.net_core.specs.Sound.{Needs}

-- a gate that drives a has b among its inputs, or a latch that drives a takes its next bit from b
abbrev pub Draws : NetList → ℕ → ℕ → Type 0
Draws net a b = Needs net a b ⊎ ((l : LatchValue) × Has net.latches l × (l.out ≡ a) × (l.next ≡ b))

-- the net is one of these, or one of these is led to it over a chain of nets, each in the relation to the next
abbrev pub ReachesBy : (ℕ → ℕ → Type 0) → ℕ → List ℕ → Type 0
ReachesBy R n ends = Has ends n ⊎ ((m : ℕ) × (over : List ℕ) × Has ends m × IsChain R m over n)

-- the net is one of these, or one of these is drawn from it over a chain of gates and latches
abbrev pub Reaches : NetList → ℕ → List ℕ → Type 0
Reaches net n ends = ReachesBy (Draws net) n ends

-- the net is one of these, or one of these is drawn from it over a chain of gates
abbrev pub ReachesByGates : NetList → ℕ → List ℕ → Type 0
ReachesByGates net n ends = ReachesBy (Needs net) n ends
