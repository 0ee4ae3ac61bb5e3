-- Why a list of coefficients makes no tower over a base of n bits. Source: this project's own.
use Rattle.std.specs.Prelude.{◌≡◌, ℕ, List, length}
use Rattle.gf_field.specs.Element.{IsFirstOutside}
use Rattle.gf_tower.specs.Tower.{IsLength}
use Rattle.gf_tower.specs.declared.towers.TowerFault.{TowerFault}
use Rattle.gf_tower.specs.declared.towers.TowerFault.TheVariants.{BadLength, BadCoefficient}

-- their number is below 2 or too large; or else, which is the first that is no element
abbrev pub IsTowerFault : ℕ → List ℕ → TowerFault → Type 0
IsTowerFault n cs BadLength = ¬ IsLength n (length cs)
IsTowerFault n cs (BadCoefficient place) = IsLength n (length cs) × IsFirstOutside n cs place

-- coefficients have at most one fault
abbrev pub HasOneTowerFault : Type 0
HasOneTowerFault = (n : ℕ) (cs : List ℕ) (f h : TowerFault) → IsTowerFault n cs f → IsTowerFault n cs h → f ≡ h
