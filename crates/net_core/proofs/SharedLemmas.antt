-- Lemmas that several crates above cite.
use Rattle.std.proofs.Common.{◌≡◌, subst, List, [], ℕ, ◌<◌}
use Rattle.lists.specs.Lists.{Has}
use Rattle.lists.specs.laws.HasLaws.{All_has}
use Rattle.net_core.proofs.DriverLemmas.{gate_inside}
use Rattle.net_core.proofs.ExistLemmas.{sound_levels}
use Rattle.net_core.proofs.LawLemmas.{levels_only}
use Rattle.net_core.specs.GateValue.{GateValue}
use Rattle.net_core.specs.LatchValue.{LatchValue}
use Rattle.net_core.specs.Level.{Levels, AreLevels}
use Rattle.net_core.specs.Levelled.{AllHaveLevels}
use Rattle.net_core.specs.NetList.{NetList, nets}
use Rattle.net_core.specs.Sound.{IsSound}

pub no_latch : (latches : List LatchValue) (l : LatchValue) → latches ≡ [] → Has latches l → ⊥
no_latch latches l none has = let P : List LatchValue → Type 0 = λ ls. Has ls l in empty (subst P none has)
  where
    empty : Has [] l → ⊥
    empty found = let got = found.1 in absurd (cc)

pub input_below : (net : NetList) (g : GateValue) → IsSound net → Has net.gates g → (n : ℕ) → Has g.inputs n → n < nets net
input_below net g sound has n input = All_has (λ m. m < nets net) g.inputs n (gate_inside net g sound.inside has).1 input

pub all_levels : (net : NetList) (levels : Levels) → IsSound net → AreLevels net levels → AllHaveLevels net levels
all_levels net levels sound are =
    let some = sound_levels net sound in
    let P : Levels → Type 0 = λ l. AllHaveLevels net l in
    subst P (levels_only net some.0 levels sound.one some.1.0 are) some.1
