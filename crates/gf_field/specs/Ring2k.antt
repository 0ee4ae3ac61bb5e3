-- What a `Ring2k` is made of. Source: this project's own.
use Rattle.std.specs.Prelude.{◌≡◌, ℕ, ◌<◌, ◌^◌, ◌↔◌}
use Rattle.gf_field.specs.Bit.{bit_mul}
use Rattle.gf_field.specs.Polynomial.{IsProductModulo}
use Rattle.gf_field.specs.Quotient.{product}
use Rattle.gf_field.specs.declared.ring_2k.Ring2k.{Ring2k}

-- its modulus
abbrev pub modulus_of : Ring2k → ℕ
modulus_of ring = ring.modulus

-- the degree of its modulus
abbrev pub degree_of : Ring2k → ℕ
degree_of ring = ring.degree

-- modulo g, which has degree d, `product` is the one product of the definition
abbrev pub IsOnlyRemainder : (d g : ℕ) → Type 0
IsOnlyRemainder d g = (a b w : ℕ) → a < 2 ^ d → b < 2 ^ d → IsProductModulo 1 d bit_mul g a b w ↔ (w ≡ product 1 d bit_mul g a b)
