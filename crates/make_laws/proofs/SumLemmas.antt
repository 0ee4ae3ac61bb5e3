-- Sums of the first values of a function.
use Rattle.std.proofs.Common.{◌≡◌, ℕ, zero, suc, sym, ◌∙◌, ap, ap₂, ◌<◌, ◌^◌, ◌+◌, ◌*◌, ◌%◌, arith, zero-mul, pow_pos, mod-lt, inl, inr}
use Rattle.std.specs.Prelude.{bit_xor}
use Rattle.std.specs.Int.{bit_at}
use Rattle.std.specs.Int.Bits.{xor_zero_l, xor_zero_r, xor_block}
use Rattle.std.proofs.lemmas.Nat.{mod-pow-add, pow_pos as pow_pos_law}
use Rattle.std.proofs.lemmas.Nat.Bits.{bit_at-zero}
use Rattle.std.proofs.Math.Nat.{mod-one, one-mul}
use Rattle.lists.specs.laws.NumberLaws.{bit_cases, self_plus_zero}
use Rattle.lists.specs.laws.XorLaws.{bit_at-sum}
use Rattle.gf_field.specs.Ring.{IsRing}
use Rattle.gf_field.specs.Polynomial.{sum_of_first}
use Rattle.gf_field.specs.laws.RingLaws.{distrib_left, zero_mul, mul_zero, square-xor}
use Rattle.make_laws.proofs.BitLemmas.{times-xor}

-- the bits of a sum
pub bit_at-sum_of_first : (m : ℕ) (f : ℕ → ℕ) (l : ℕ) → bit_at (sum_of_first m f) l ≡ sum_of_first m (λ i. bit_at (f i) l)
bit_at-sum_of_first zero f l = bit_at-zero l
bit_at-sum_of_first (suc m) f l = bit_at-sum (sum_of_first m f) (f m) l ∙ ap (λ x. bit_xor x (bit_at (f m) l)) (bit_at-sum_of_first m f l)

-- a bit times a sum
pub times-sum_of_first : (t m : ℕ) (f : ℕ → ℕ) → t < 2 → t * sum_of_first m f ≡ sum_of_first m (λ i. t * f i)
times-sum_of_first t zero f h = omega arith
times-sum_of_first t (suc m) f h = times-xor t (sum_of_first m f) (f m) h ∙ ap (λ x. bit_xor x (t * f m)) (times-sum_of_first t m f h)

-- one more bit of a number
pub one_more_bit : (a i : ℕ) → a % 2 ^ suc i ≡ bit_xor (a % 2 ^ i) (bit_at a i * 2 ^ i)
one_more_bit a i =
    ap (λ x. a % 2 ^ x) (moved i)
    ∙ mod-pow-add a 1 i
    ∙ sym (ap₂ bit_xor (padded_left (2 ^ i) (a % 2 ^ i)) (self_plus_zero (bit_at a i * 2 ^ i))
    ∙ xor_block i 0 (bit_at a i) (a % 2 ^ i) 0 (mod_below a i) (pow_pos_law i)
    ∙ ap₂ (λ x y. x * 2 ^ i + y) (xor_zero_l (bit_at a i)) (xor_zero_r (a % 2 ^ i)))
  where
    moved : (i : ℕ) → suc i ≡ 1 + i
    moved i = omega arith

    padded_left : (p r : ℕ) → r ≡ 0 * p + r
    padded_left p r = omega arith

    mod_below : (a i : ℕ) → a % 2 ^ i < 2 ^ i
    mod_below a i = mod-lt a (pow_pos i)

-- a number as the sum of the powers of 2 whose bits are 1
pub sum_of_bits : (a m : ℕ) → a % 2 ^ m ≡ sum_of_first m (λ i. bit_at a i * 2 ^ i)
sum_of_bits a zero = mod-one a
sum_of_bits a (suc m) = one_more_bit a m ∙ ap (λ x. bit_xor x (bit_at a m * 2 ^ m)) (sum_of_bits a m)

module _ (k : ℕ) (mul : ℕ → ℕ → ℕ) (ring : IsRing k mul) where
  pub sum_mul : (m : ℕ) (f : ℕ → ℕ) (c : ℕ) → mul (sum_of_first m f) c ≡ sum_of_first m (λ i. mul (f i) c)
  sum_mul zero f c = zero_mul k mul ring c
  sum_mul (suc m) f c = distrib_left k mul ring (sum_of_first m f) (f m) c ∙ ap (λ x. bit_xor x (mul (f m) c)) (sum_mul m f c)

  pub sum_square : (m : ℕ) (f : ℕ → ℕ) → mul (sum_of_first m f) (sum_of_first m f) ≡ sum_of_first m (λ i. mul (f i) (f i))
  sum_square zero f = mul_zero k mul ring 0
  sum_square (suc m) f = square-xor k mul ring (sum_of_first m f) (f m) ∙ ap (λ x. bit_xor x (mul (f m) (f m))) (sum_square m f)

  -- a bit may stand before a product
  pub times_mul : (t v c : ℕ) → t < 2 → mul (t * v) c ≡ t * mul v c
  times_mul t v c h = elim (bit_cases t h) [
    | inl z ↦ rw z (ap (λ x. mul x c) (zero-mul v) ∙ zero_mul k mul ring c ∙ sym (zero-mul (mul v c)))
    | inr o ↦ rw o (ap (λ x. mul x c) (one-mul v) ∙ sym (one-mul (mul v c)))
  ]

  pub mul_times : (t v c : ℕ) → t < 2 → mul c (t * v) ≡ t * mul c v
  mul_times t v c h = ring.comm c (t * v) ∙ times_mul t v c h ∙ ap (λ x. t * x) (ring.comm v c)

  pub times_square : (t v : ℕ) → t < 2 → mul (t * v) (t * v) ≡ t * mul v v
  times_square t v h = elim (bit_cases t h) [
    | inl z ↦ rw z (ap (λ x. mul x (0 * v)) (zero-mul v) ∙ zero_mul k mul ring (0 * v) ∙ sym (zero-mul (mul v v)))
    | inr o ↦ rw o (ap₂ mul (one-mul v) (one-mul v) ∙ sym (one-mul (mul v v)))
  ]
