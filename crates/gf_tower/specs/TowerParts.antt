-- What a `Tower` is made of. Source: this project's own.
use Rattle.std.specs.Prelude.{ℕ, List, take}
use Rattle.gf_field.specs.declared.rings.Ring.{Ghosts}
use Rattle.gf_tower.specs.declared.towers.Tower.{Tower}

-- the field below
abbrev pub base_of : {F T : Type 0} {G : Ghosts F T} → Tower F T G → F
base_of tower = tower.base

-- the coefficients of its polynomial below the leading one
abbrev pub coefficients_of : {F T : Type 0} {G : Ghosts F T} → Tower F T G → List ℕ
coefficients_of tower = take tower.length tower.coefficients

-- the degree of its polynomial
abbrev pub size_of : {F T : Type 0} {G : Ghosts F T} → Tower F T G → ℕ
size_of tower = tower.length
