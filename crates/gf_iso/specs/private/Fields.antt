-- A base and a tower of degree 2 over it, both fields. Source: this project's own.
use Rattle.std.specs.Prelude.{ℕ, ◌<◌, ◌≤◌, ◌*◌, ◌^◌, [], ◌∷◌, bit_xor}
use Rattle.gf_field.specs.Bit.{bit_mul}
use Rattle.gf_field.specs.Field.{HasNoZeroDivisors}
use Rattle.gf_field.specs.Modulus.{IsModulus}
use Rattle.gf_field.specs.Polynomial.{coefficient}
use Rattle.gf_field.specs.Quotient.{product}
use Rattle.gf_field.specs.Trace.{frobenius}
use Rattle.gf_tower.specs.FieldName.{tower_product}
use Rattle.gf_tower.specs.Tower.{tower_polynomial}
use Rattle.gf_iso.specs.Root.{value_at}

-- g of degree n makes a field of numbers of at most 16 bits
pub record IsBaseField (n g : ℕ) : Type 0 where
  pub modulus : IsModulus n g
  pub small : n ≤ 16
  pub field : HasNoZeroDivisors n (product 1 n bit_mul g)

-- Y^2 + c1 * Y + c0 makes a field over it
pub record IsTowerField (n g c0 c1 : ℕ) : Type 0 where
  pub base : IsBaseField n g
  pub first : c0 < 2 ^ n
  pub second : c1 < 2 ^ n
  pub field : HasNoZeroDivisors (n * 2) (tower_product n g (c0 ∷ c1 ∷ []))

-- the value at s of the polynomial whose n coefficients are the bits of u
unfoldable pub base_image : (ℕ → ℕ → ℕ) → (n s u : ℕ) → ℕ
base_image big n s u = value_at big n (coefficient 1 u) s

-- the coefficients of Y^2 + c1 * Y + c0, each the value at s of the polynomial whose n coefficients are its bits
abbrev pub carried_over : (ℕ → ℕ → ℕ) → (n s c0 c1 : ℕ) → ℕ → ℕ
carried_over big n s c0 c1 i = base_image big n s (coefficient n (tower_polynomial n (c0 ∷ c1 ∷ [])) i)

-- y squared n times, plus y
abbrev pub fixed : (ℕ → ℕ → ℕ) → (n y : ℕ) → ℕ
fixed mul n y = bit_xor (frobenius mul n y) y

-- y^2 + b * y
abbrev pub quadratic : (ℕ → ℕ → ℕ) → (b y : ℕ) → ℕ
quadratic mul b y = bit_xor (mul y y) (mul b y)
