-- Why a modulus and coefficients name no field, each fault after those before it. Source: this project's own.
use Rattle.std.specs.Prelude.{◌≡◌, ℕ, ◌*◌, ◌<◌, List, length}
use Rattle.gf_field.specs.Bit.{bit_mul}
use Rattle.gf_field.specs.Element.{IsFirstOutside}
use Rattle.gf_field.specs.Modulus.{HasModulusDegree}
use Rattle.gf_field.specs.Polynomial.{IsIrreducible}
use Rattle.gf_tower.specs.Tower.{IsLength, IsTowerList, tower_polynomial}
use Rattle.gf_tower.specs.FieldName.{IsFieldModulus, IsFieldTower, IsIrreducibleOver, tower_product}
use Rattle.gf_tower.specs.declared.any_field.FieldFault.{FieldFault}
use Rattle.gf_tower.specs.declared.any_field.FieldFault.TheVariants.{BadDegree, NotIrreducible, BadLength, BadCoefficient, TowerNotIrreducible, UpperBadLength, UpperBadCoefficient, UpperNotIrreducible}

-- the modulus g, which has degree d, and the coefficients make a tower that is a field
pub record HasTower (d g : ℕ) (cs : List ℕ) : Type 0 where
  pub base : IsFieldModulus d g
  pub tower : IsFieldTower d g cs

-- the degree is not 1 to 64; the modulus is reducible; the number of coefficients does not fit; the first one that is
-- no element; their polynomial is reducible over the field of the modulus; the same three of the second step, over the
-- first tower
abbrev pub IsFieldFault : ℕ → List ℕ → List ℕ → FieldFault → Type 0
IsFieldFault g cs us BadDegree = ¬ HasModulusDegree g
IsFieldFault g cs us NotIrreducible = HasModulusDegree g × ¬ IsIrreducible 1 bit_mul g
IsFieldFault g cs us BadLength = (d : ℕ) × (IsFieldModulus d g × (0 < length cs) × ¬ IsLength d (length cs))
IsFieldFault g cs us (BadCoefficient place) = (d : ℕ) × (IsFieldModulus d g × IsLength d (length cs) × IsFirstOutside d cs place)
IsFieldFault g cs us TowerNotIrreducible = (d : ℕ) × (IsFieldModulus d g × IsTowerList d cs × ¬ IsIrreducibleOver d g cs)
IsFieldFault g cs us UpperBadLength = (d : ℕ) × (HasTower d g cs × (0 < length us) × ¬ IsLength (d * length cs) (length us))
IsFieldFault g cs us (UpperBadCoefficient place) = (d : ℕ) × (HasTower d g cs × IsLength (d * length cs) (length us) × IsFirstOutside (d * length cs) us place)
IsFieldFault g cs us UpperNotIrreducible = (d : ℕ) × (HasTower d g cs × IsTowerList (d * length cs) us × ¬ IsIrreducible (d * length cs) (tower_product d g cs) (tower_polynomial (d * length cs) us))

-- a modulus and coefficients have at most one fault
abbrev pub HasOneFieldFault : Type 0
HasOneFieldFault = (g : ℕ) (cs us : List ℕ) (f h : FieldFault) → IsFieldFault g cs us f → IsFieldFault g cs us h → f ≡ h
