-- The factor of Montgomery's product: the inverse of x to the k. Source: Koç and Acar, Montgomery multiplication in GF(2^k),
-- Designs, Codes and Cryptography 14, 1998.
use Rattle.std.specs.Prelude.{◌≡◌, ℕ, ◌<◌, ◌^◌}
use Rattle.gf_field.specs.Bit.{bit_mul}
use Rattle.gf_field.specs.Quotient.{product}
use Rattle.make_laws.specs.ProductBits.{x_to}

-- r times x to the k is 1, modulo g, which has degree k
pub record IsInversePower (k g r : ℕ) : Type 0 where
  pub below : r < 2 ^ k
  pub is : product 1 k bit_mul g r (x_to k g k) ≡ 1

-- there is exactly one such element
pub record HasOneInversePower (k g : ℕ) : Type 0 where
  pub inverse : ℕ
  pub is_one : IsInversePower k g inverse
  pub only : (r : ℕ) → IsInversePower k g r → r ≡ inverse
