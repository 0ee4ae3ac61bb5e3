-- The quotient by a monic polynomial is a ring.
use Rattle.std.proofs.Common.{◌≡◌, ℕ, zero, suc, sym, ◌∙◌, ap, ap₂, ◌<◌, ◌≤◌, ◌^◌, ◌*◌, ◌%◌, arith, mod-lt, pow_pos, mul-pos}
use Rattle.std.specs.Prelude.{bit_xor}
use mathlib.Core.Path.{fun_ext}
use native.Mathlib.Nat.{mod-eq_of_lt}
use Rattle.std.proofs.lemmas.Nat.{pow_below}
use Rattle.gf_field.specs.Ring.{IsRing}
use Rattle.gf_field.specs.Polynomial.{coefficient, IsMonic}
use Rattle.gf_field.specs.Quotient.{reduced, packed, product, HasQuotientRings}
use Rattle.gf_field.specs.laws.QuotientLaws.{EndsAt, AllBelow, quotient_comm, quotient_assoc, quotient_distrib, quotient_one, quotient_below, quotient_ends}
use Rattle.gf_field.specs.laws.PackingLaws.{coefficient-packed, packed-coefficient, packed_below, packed_xor, coefficient_below, coefficient_ends, coefficient_one, shorten_xor}

-- the coefficients of an element
abbrev pub parts : (n d u : ℕ) → ℕ → ℕ
parts n d u = coefficient n (u % 2 ^ (n * d))

parts_below : (n d u : ℕ) → AllBelow n (parts n d u)
parts_below n d u = coefficient_below n (u % 2 ^ (n * d))

parts_end : (n d u : ℕ) → EndsAt d (parts n d u)
parts_end n d u = coefficient_ends n d (u % 2 ^ (n * d)) (mod-lt u (pow_pos (n * d)))

module _ (n e : ℕ) (mul : ℕ → ℕ → ℕ) (g : ℕ) (ring : IsRing n mul) (monic : IsMonic n (suc e) g) where
  -- the product's coefficients
  pub parts_of : (u v : ℕ) → ℕ → ℕ
  parts_of u v = reduced mul e (coefficient n g) (suc e) (parts n (suc e) u) (parts n (suc e) v)

  parts_of_below : (u v : ℕ) → AllBelow n (parts_of u v)
  unfolding parts_of
  parts_of_below u v = quotient_below n mul ring e (coefficient n g) monic.leading monic.last (parts n (suc e) u) (parts n (suc e) v) (parts_below n (suc e) u) (parts_end n (suc e) u) (parts_below n (suc e) v) (parts_end n (suc e) v)

  parts_of_end : (u v : ℕ) → EndsAt (suc e) (parts_of u v)
  unfolding parts_of
  parts_of_end u v = quotient_ends n mul ring e (coefficient n g) monic.leading monic.last (parts n (suc e) u) (parts n (suc e) v) (parts_below n (suc e) u) (parts_end n (suc e) u) (parts_below n (suc e) v) (parts_end n (suc e) v)

  pub product_below : (u v : ℕ) → product n (suc e) mul g u v < 2 ^ (n * suc e)
  unfolding product parts_of
  product_below u v = packed_below n (suc e) (parts_of u v) (parts_of_below u v)

  pub parts-product : (u v : ℕ) → parts n (suc e) (product n (suc e) mul g u v) ≡ parts_of u v
  unfolding product parts_of
  parts-product u v =
      ap (coefficient n) (mod-eq_of_lt (product_below u v))
      ∙ fun_ext (coefficient-packed n (suc e) (parts_of u v) (parts_of_below u v) (parts_of_end u v))

  pub coefficient-product : (u v : ℕ) → u < 2 ^ (n * suc e) → v < 2 ^ (n * suc e) → coefficient n (product n (suc e) mul g u v) ≡ reduced mul e (coefficient n g) (suc e) (coefficient n u) (coefficient n v)
  unfolding parts_of
  coefficient-product u v hu hv =
      ap (coefficient n) (sym (mod-eq_of_lt (product_below u v)))
      ∙ parts-product u v
      ∙ ap₂ (λ x y. reduced mul e (coefficient n g) (suc e) (coefficient n x) (coefficient n y)) (mod-eq_of_lt hu) (mod-eq_of_lt hv)

  pub product_comm : (u v : ℕ) → product n (suc e) mul g u v ≡ product n (suc e) mul g v u
  unfolding product
  product_comm u v = ap (packed n (suc e)) (quotient_comm n mul ring e (coefficient n g) monic.leading monic.last (parts n (suc e) u) (parts n (suc e) v) (parts_below n (suc e) u) (parts_end n (suc e) u) (parts_below n (suc e) v) (parts_end n (suc e) v))

  pub product_assoc : (u v w : ℕ) → product n (suc e) mul g (product n (suc e) mul g u v) w ≡ product n (suc e) mul g u (product n (suc e) mul g v w)
  unfolding product parts_of
  product_assoc u v w =
      ap (λ f. packed n (suc e) (reduced mul e (coefficient n g) (suc e) f (parts n (suc e) w))) (parts-product u v)
      ∙ ap (packed n (suc e)) (quotient_assoc n mul ring e (coefficient n g) monic.leading monic.last (parts n (suc e) u) (parts n (suc e) v) (parts n (suc e) w) (parts_below n (suc e) u) (parts_end n (suc e) u) (parts_below n (suc e) v) (parts_end n (suc e) v) (parts_below n (suc e) w) (parts_end n (suc e) w))
      ∙ sym (ap (λ f. packed n (suc e) (reduced mul e (coefficient n g) (suc e) (parts n (suc e) u) f)) (parts-product v w))

  pub product_distrib : (u v w : ℕ) → product n (suc e) mul g u (bit_xor v w) ≡ bit_xor (product n (suc e) mul g u v) (product n (suc e) mul g u w)
  unfolding product parts_of
  product_distrib u v w =
      ap (λ f. packed n (suc e) (reduced mul e (coefficient n g) (suc e) (parts n (suc e) u) f)) (shorten_xor n (suc e) v w)
      ∙ ap (packed n (suc e)) (quotient_distrib n mul ring e (coefficient n g) monic.leading monic.last (parts n (suc e) u) (parts n (suc e) v) (parts n (suc e) w))
      ∙ packed_xor n (suc e) (parts_of u v) (parts_of u w) (parts_of_below u v) (parts_of_below u w)

  wide : 1 < 2 ^ (n * suc e)
  wide = pow_below 0 (n * suc e) (mul-pos ring.some (omega arith))

  product_one_right : (u : ℕ) → u < 2 ^ (n * suc e) → product n (suc e) mul g u 1 ≡ u
  unfolding product
  product_one_right u h =
      ap (λ f. packed n (suc e) (reduced mul e (coefficient n g) (suc e) (parts n (suc e) u) f)) (ap (coefficient n) (mod-eq_of_lt wide) ∙ coefficient_one n ring.some)
      ∙ ap (packed n (suc e)) (quotient_one n mul ring e (coefficient n g) monic.leading monic.last (parts n (suc e) u) (parts_below n (suc e) u) (parts_end n (suc e) u))
      ∙ ap (λ x. packed n (suc e) (coefficient n x)) (mod-eq_of_lt h)
      ∙ packed-coefficient n (suc e) u h

  pub product_one : (u : ℕ) → u < 2 ^ (n * suc e) → product n (suc e) mul g 1 u ≡ u
  product_one u h = product_comm 1 u ∙ product_one_right u h

-- the quotient by a monic polynomial is a ring
pub IsRing-product : (n d : ℕ) (mul : ℕ → ℕ → ℕ) (g : ℕ) → IsRing n mul → IsMonic n d g → 1 ≤ d → n * d ≤ 64 → IsRing (n * d) (product n d mul g)
IsRing-product n zero mul g ring monic some small = absurd (omega arith)
IsRing-product n (suc e) mul g ring monic some small = record {
  some = mul-pos ring.some (omega arith);
  small = small;
  closed = product_below n e mul g ring monic;
  comm = product_comm n e mul g ring monic;
  assoc = product_assoc n e mul g ring monic;
  distrib = product_distrib n e mul g ring monic;
  one = product_one n e mul g ring monic;
}

pub HasQuotientRings-from_ring : (n : ℕ) (mul : ℕ → ℕ → ℕ) → IsRing n mul → HasQuotientRings n mul
HasQuotientRings-from_ring n mul ring d g some small monic = IsRing-product n d mul g ring monic some small
