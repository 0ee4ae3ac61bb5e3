-- Levels that were found so far, for the clauses of private functions. Source: this project's own.
use Rattle.std.specs.Prelude.{◌≡◌, ℕ, List, ◌<◌, ◌≤◌, ◌+◌, Option, None, Some, slice_get, length, sum_by}
use Rattle.lists.specs.Lists.{Has}
use Rattle.net_core.specs.GateValue.{GateValue}
use Rattle.net_core.specs.NetList.{NetList, nets}
use Rattle.net_core.specs.Sound.{sources}
use Rattle.net_core.specs.Level.{Levels, level_at, level_over}

abbrev pub lack : Option ℕ → ℕ
lack None = 1
lack (Some l) = 0

-- how many nets have no level
abbrev pub lacking : Levels → ℕ
lacking levels = sum_by lack levels

-- each gate with a level has the right one; done levels at least are known, and none is greater
pub record ArePartial (net : NetList) (levels : Levels) (done : ℕ) : Type 0 where
  pub long : length levels ≡ nets net
  pub sources : (n : ℕ) → Has (sources net) n → level_at levels n ≡ Some 0
  pub gates : (p : ℕ) (g : GateValue) (l : ℕ) → slice_get net.gates p ≡ Some g → level_at levels g.out ≡ Some l → level_over levels g.inputs ≡ Some l
  pub small : (n l : ℕ) → level_at levels n ≡ Some l → l ≤ done
  pub few : done + lacking levels ≤ length levels

-- the first k of the sources have level 0, and no net but a source has a level
pub record AreZeros (bound : ℕ) (sources : List ℕ) (k : ℕ) (levels : Levels) : Type 0 where
  pub long : length levels ≡ bound
  pub each : (j n : ℕ) → j < k → slice_get sources j ≡ Some n → level_at levels n ≡ Some 0
  pub only : (n l : ℕ) → level_at levels n ≡ Some l → (l ≡ 0) × Has sources n

-- at the net of each gate the list has the gate's position
abbrev pub ArePositions : NetList → List ℕ → Type 0
ArePositions net positions = (p : ℕ) (g : GateValue) → slice_get net.gates p ≡ Some g → slice_get positions g.out ≡ Some p

-- each net of the list has a level
abbrev pub AreKnown : Levels → List ℕ → Type 0
AreKnown levels ns = (k n : ℕ) → slice_get ns k ≡ Some n → level_at levels n ≡ None → ⊥

-- levels that are known stay
abbrev pub KeepsLevels : Levels → Levels → Type 0
KeepsLevels old new = (n l : ℕ) → level_at old n ≡ Some l → level_at new n ≡ Some l
