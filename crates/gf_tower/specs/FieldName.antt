-- The fields that a modulus over 0 and 1 and one or two tower steps name.
-- Source: Lidl and Niederreiter, Finite Fields, chapter 1; the numbers that name a field are this project's own.
use Rattle.std.specs.Prelude.{◌≡◌, ℕ, ◌*◌, ◌⊎◌, List, [], length}
use Rattle.gf_field.specs.Bit.{bit_mul}
use Rattle.gf_field.specs.Modulus.{IsModulus}
use Rattle.gf_field.specs.Polynomial.{IsIrreducible}
use Rattle.gf_field.specs.Quotient.{product}
use Rattle.gf_tower.specs.Tower.{IsTowerList, tower_polynomial}

-- g has degree d, which is 1 to 64, and is irreducible over 0 and 1
pub record IsFieldModulus (d g : ℕ) : Type 0 where
  pub modulus : IsModulus d g
  pub irreducible : IsIrreducible 1 bit_mul g

-- the coefficients make a tower, over the field of 2 to the n elements with this product, that is a field
pub record IsFieldOver (n : ℕ) (mul : ℕ → ℕ → ℕ) (cs : List ℕ) : Type 0 where
  pub list : IsTowerList n cs
  pub irreducible : IsIrreducible n mul (tower_polynomial n cs)

-- the tower's polynomial is irreducible over the field of the modulus g, which has degree d
abbrev pub IsIrreducibleOver : ℕ → ℕ → List ℕ → Type 0
IsIrreducibleOver d g cs = IsIrreducible d (product 1 d bit_mul g) (tower_polynomial d cs)

-- the coefficients make a field over that of the modulus g, which has degree d
abbrev pub IsFieldTower : (d g : ℕ) → List ℕ → Type 0
IsFieldTower d g cs = IsFieldOver d (product 1 d bit_mul g) cs

-- the product of the tower over the field of the modulus g, which has degree d
abbrev pub tower_product : (d g : ℕ) → List ℕ → ℕ → ℕ → ℕ
tower_product d g cs = product d (length cs) (product 1 d bit_mul g) (tower_polynomial d cs)

-- the coefficients of the second step make a field over the first tower
abbrev pub IsFieldUpper : (d g : ℕ) → List ℕ → List ℕ → Type 0
IsFieldUpper d g cs us = IsFieldOver (d * length cs) (tower_product d g cs) us

-- the modulus names a field, so do the coefficients over it, and those of the second step over that tower; no
-- coefficients stand for no step
pub record IsFieldName (g : ℕ) (cs us : List ℕ) : Type 0 where
  pub degree : ℕ
  pub base : IsFieldModulus degree g
  pub tower : (cs ≡ []) ⊎ IsFieldTower degree g cs
  pub upper : (us ≡ []) ⊎ IsFieldUpper degree g cs us
