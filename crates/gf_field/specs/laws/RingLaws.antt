-- Laws of every ring.
use Rattle.std.proofs.Common.{◌≡◌, ℕ, sym, ◌∙◌, ap, ap₂, ◌<◌, ◌^◌}
use Rattle.std.specs.Prelude.{bit_xor}
use Rattle.std.specs.Int.Bits.{xor_self, xor_assoc, xor_zero_l}
use Rattle.gf_field.specs.Ring.{IsRing}

module _ (n : ℕ) (mul : ℕ → ℕ → ℕ) (ring : IsRing n mul) where
  pub distrib_left : (a b c : ℕ) → mul (bit_xor a b) c ≡ bit_xor (mul a c) (mul b c)
  distrib_left a b c = ring.comm (bit_xor a b) c ∙ ring.distrib c a b ∙ ap₂ bit_xor (ring.comm c a) (ring.comm c b)

  pub mul_zero : (a : ℕ) → mul a 0 ≡ 0
  mul_zero a = ap (mul a) (sym (xor_self 0)) ∙ ring.distrib a 0 0 ∙ xor_self (mul a 0)

  pub zero_mul : (a : ℕ) → mul 0 a ≡ 0
  zero_mul a = ring.comm 0 a ∙ mul_zero a

  pub mul_one : (a : ℕ) → a < 2 ^ n → mul a 1 ≡ a
  mul_one a h = ring.comm a 1 ∙ ring.one a h

  pub mul_left_comm : (x y a : ℕ) → mul x (mul y a) ≡ mul y (mul x a)
  mul_left_comm x y a = sym (ring.assoc x y a) ∙ ap (λ z. mul z a) (ring.comm x y) ∙ ring.assoc y x a

  -- the square of a product
  pub product_cross : (a b : ℕ) → mul (mul a b) (mul a b) ≡ mul (mul a a) (mul b b)
  product_cross a b = ring.assoc a b (mul a b) ∙ ap (mul a) (mul_left_comm b a b) ∙ sym (ring.assoc a a (mul b b))

  -- squaring is additive
  pub square-xor : (a b : ℕ) → mul (bit_xor a b) (bit_xor a b) ≡ bit_xor (mul a a) (mul b b)
  square-xor a b =
      ring.distrib (bit_xor a b) a b
      ∙ ap₂ bit_xor (distrib_left a b a) (distrib_left a b b)
      ∙ cross (mul a a) (mul b a) (mul a b) (mul b b) (ring.comm b a)
    where
      cross : (p q s t : ℕ) → q ≡ s → bit_xor (bit_xor p q) (bit_xor s t) ≡ bit_xor p t
      cross p q s t e =
          xor_assoc p q (bit_xor s t) ∙ ap (bit_xor p) (sym (xor_assoc q s t) ∙ ap (λ x. bit_xor (bit_xor x s) t) e ∙ ap (λ x. bit_xor x t) (xor_self s) ∙ xor_zero_l t)
