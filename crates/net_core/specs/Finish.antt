-- What comes of a net in the making. Source: this project's own.
use Rattle.std.specs.Prelude.{◌≡◌, ℕ, ◌<◌, ◌≤◌, List, Some, slice_get, Result, Ok, Err}
use Rattle.net_core.specs.NetList.{NetList, nets, text_of}
use Rattle.net_core.specs.Sound.{drivers, HasOneDriverEach, IsSound}
use Rattle.net_core.specs.Loop.{IsLoop}
use Rattle.net_core.specs.declared.fault.NetFault.{NetFault}
use Rattle.net_core.specs.declared.fault.NetFault.TheVariants.{TooManyNets, TooManyGates, DrivenTwice, Undriven, Loop, OutOfMemory}

-- the label is that of the first net of the list
abbrev pub IsLabelOfFirst : NetList → List ℕ → List ℕ → Type 0
IsLabelOfFirst net label loop = (n : ℕ) × (slice_get loop 0 ≡ Some n) × (label ≡ text_of net n)

-- what finish answers, fault by fault; before each stands which faults do not come
abbrev pub Finishes : NetList → Result NetList NetFault → Type 0
Finishes net (Ok made) = (made ≡ net) × IsSound net
-- the least net with two drivers
Finishes net (Err (DrivenTwice n label)) = (n < nets net) × (2 ≤ drivers net n) × ((m : ℕ) → m < n → drivers net m < 2) × (label ≡ text_of net n)
-- no net has two, and this is the least with none
Finishes net (Err (Undriven n label)) = (n < nets net) × ((m : ℕ) → m < nets net → drivers net m < 2) × (drivers net n ≡ 0) × ((m : ℕ) → m < n → drivers net m ≡ 1) × (label ≡ text_of net n)
Finishes net (Err (Loop loop label)) = HasOneDriverEach net × IsLoop net loop × IsLabelOfFirst net label loop
Finishes net (Err OutOfMemory) = Unit {0}
Finishes net (Err TooManyNets) = ⊥
Finishes net (Err TooManyGates) = ⊥

-- what comes of the net list, out of memory left out
abbrev pub Settles : NetList → Result NetList NetFault → Type 0
Settles net (Err OutOfMemory) = ⊥
Settles net outcome = Finishes net outcome
