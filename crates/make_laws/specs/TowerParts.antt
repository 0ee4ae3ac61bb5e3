-- What a tower is made of, and one over polynomials over 0 and 1. Source: this project's own.
use Rattle.std.specs.Prelude.{ℕ}
use Rattle.gf_field.specs.Ring2k.{degree_of, modulus_of}
use Rattle.gf_field.specs.declared.rings.Ring.{Ghosts}
use Rattle.gf_field.specs.declared.ring_2k.Ring2k.{Ring2k}
use Rattle.irreducible.specs.Proved.{ring_of}
use Rattle.irreducible.specs.declared.proved_rings.Proved.{Proved}
use Rattle.gf_tower.specs.Tower.{tower_polynomial}
use Rattle.gf_tower.specs.TowerParts.{base_of, coefficients_of, size_of}
use Rattle.gf_tower.specs.declared.towers.Tower.{Tower}
use Rattle.make_laws.specs.TowerProduct.{HasTowerCoefficients}

-- the degree and the modulus of the field below
abbrev pub base_degree : {T U : Type 0} {H : Ghosts Ring2k T} {G : Ghosts (Proved Ring2k T H) U} → Tower (Proved Ring2k T H) U G → ℕ
base_degree tower = degree_of (ring_of (base_of tower))

abbrev pub base_modulus : {T U : Type 0} {H : Ghosts Ring2k T} {G : Ghosts (Proved Ring2k T H) U} → Tower (Proved Ring2k T H) U G → ℕ
base_modulus tower = modulus_of (ring_of (base_of tower))

-- the polynomial of the tower, over a field of this degree
abbrev pub polynomial_in : {F T : Type 0} {G : Ghosts F T} → ℕ → Tower F T G → ℕ
polynomial_in n tower = tower_polynomial n (coefficients_of tower)

-- over a field of degree n with this product, a coefficient of a product in the tower is a sum over those of the factors
abbrev pub HasCoefficientSums : {F T : Type 0} {G : Ghosts F T} → (n : ℕ) → (ℕ → ℕ → ℕ) → Tower F T G → Type 0
HasCoefficientSums n mul tower = HasTowerCoefficients n (size_of tower) mul (polynomial_in n tower)
