-- Why a list of coefficients makes no field over another. Source: this project's own.
use Rattle.std.specs.Prelude.{ℕ, List, Option, None, Some}
use Rattle.gf_field.specs.Polynomial.{IsIrreducible}
use Rattle.gf_tower.specs.Tower.{IsTowerList, tower_polynomial}
use Rattle.gf_tower.specs.TowerFault.{IsTowerFault}
use Rattle.gf_tower.specs.declared.towers.TowerFault.{TowerFault}

-- they make no tower; or, with no fault of a tower, their polynomial is reducible
abbrev pub IsOverFault : (n : ℕ) → (ℕ → ℕ → ℕ) → List ℕ → Option TowerFault → Type 0
IsOverFault n mul cs None = IsTowerList n cs × ¬ IsIrreducible n mul (tower_polynomial n cs)
IsOverFault n mul cs (Some fault) = IsTowerFault n cs fault
