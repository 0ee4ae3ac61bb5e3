-- Numbers as lists of coefficients.
use Rattle.std.proofs.Common.{◌≡◌, ℕ, zero, suc, sym, ◌∙◌, ap, ap₂, ◌<◌, ◌≤◌, ◌^◌, ◌+◌, ◌*◌, ◌/◌, ◌%◌, arith, mul-zero, mul-suc, pow_pos, pow-add, shr-shr, add_comm, shr_lt, mod-lt, zero-mul, zero-add, add-zero, add-suc, le_trans, lt_of_lt_of_le, pow_mono, mul-le-mul_right, pow-suc, refl}
use Rattle.std.specs.Prelude.{bit_xor}
use Rattle.std.specs.Int.Bits.{xor_shr, xor_mod, xor_self, xor_block}
use Rattle.std.proofs.lemmas.Nat.{shr_split, shr_high, mod_low}
use Rattle.std.proofs.Math.Arith.{digits_lt}
use native.Mathlib.Nat.{div-one, mod-eq_of_lt, zero-div, zero-mod, div-eq_of_lt}
use Rattle.lists.specs.laws.NumberLaws.{at_most_once}
use Rattle.lists.specs.laws.PowerLaws.{one_below_pow}
use mathlib.Core.Path.{fun_ext}
use Rattle.gf_field.specs.Polynomial.{coefficient}
use Rattle.gf_field.specs.Quotient.{none, unit, plus, rest, packed}
use Rattle.gf_field.specs.laws.QuotientLaws.{EndsAt, AllBelow}

pub coefficient_zero : (n u : ℕ) → coefficient n u 0 ≡ u % 2 ^ n
coefficient_zero n u = ap (λ x. u / 2 ^ x % 2 ^ n) (mul-zero n) ∙ ap (λ x. x % 2 ^ n) (div-one u)

pub coefficient_suc : (n u i : ℕ) → coefficient n u (suc i) ≡ coefficient n (u / 2 ^ n) i
coefficient_suc n u i = ap (λ x. u / 2 ^ x % 2 ^ n) (mul-suc n i ∙ add_comm (n * i) n) ∙ ap (λ x. x % 2 ^ n) (sym (shr-shr u n (n * i)))

pub coefficient_below : (n u : ℕ) → AllBelow n (coefficient n u)
coefficient_below n u i = mod-lt (u / 2 ^ (n * i)) (pow_pos n)

pub coefficient_none : (n i : ℕ) → coefficient n 0 i ≡ 0
coefficient_none n i = ap (λ x. x % 2 ^ n) (zero-div (2 ^ (n * i))) ∙ zero-mod (2 ^ n)

pub coefficient_xor : (n u v i : ℕ) → coefficient n (bit_xor u v) i ≡ bit_xor (coefficient n u i) (coefficient n v i)
coefficient_xor n u v i = ap (λ x. x % 2 ^ n) (xor_shr u v (n * i)) ∙ xor_mod (u / 2 ^ (n * i)) (v / 2 ^ (n * i)) n

pub packed_below : (n d : ℕ) (f : ℕ → ℕ) → AllBelow n f → packed n d f < 2 ^ (n * d)
packed_below n zero f h = pow_pos (n * 0)
packed_below n (suc d) f h =
    rw (mul-suc n d, pow-add 2 (n * d) n) (digits_lt (packed_below n d (rest f) (λ i. h (suc i))) (h 0))

pub coefficient-packed : (n d : ℕ) (f : ℕ → ℕ) → AllBelow n f → EndsAt d f → (i : ℕ) → coefficient n (packed n d f) i ≡ f i
coefficient-packed n zero f below ends i = coefficient_none n i ∙ sym (ends i (omega arith))
coefficient-packed n (suc d) f below ends zero = coefficient_zero n (packed n (suc d) f) ∙ mod_low (packed n d (rest f)) n (f 0) (below 0)
coefficient-packed n (suc d) f below ends (suc i) =
    coefficient_suc n (packed n (suc d) f) i
    ∙ ap (λ x. coefficient n x i) (shr_high (packed n d (rest f)) n (f 0) (below 0))
    ∙ coefficient-packed n d (rest f) (λ j. below (suc j)) (λ j h. ends (suc j) (omega arith)) i

pub packed-coefficient : (n d u : ℕ) → u < 2 ^ (n * d) → packed n d (coefficient n u) ≡ u
packed-coefficient n zero u h = let less : u < 1 = rw (mul-zero n) at h in omega arith
packed-coefficient n (suc d) u h =
    ap₂ (λ f a. packed n d f * 2 ^ n + a) (fun_ext (coefficient_suc n u)) (coefficient_zero n u)
    ∙ ap (λ x. x * 2 ^ n + u % 2 ^ n) (packed-coefficient n d (u / 2 ^ n) (shr_lt (n * d) n (rw mul-suc at h)))
    ∙ shr_split u n

pub coefficient_ends : (n d u : ℕ) → u < 2 ^ (n * d) → EndsAt d (coefficient n u)
coefficient_ends n zero u h i le = let less : u < 1 = rw (mul-zero n) at h in let none : u ≡ 0 = omega arith in rw none (coefficient_none n i)
coefficient_ends n (suc d) u h zero le = absurd (omega arith)
coefficient_ends n (suc d) u h (suc i) le =
    coefficient_suc n u i ∙ coefficient_ends n d (u / 2 ^ n) (shr_lt (n * d) n (rw mul-suc at h)) i (omega arith)

-- ---- the product of a quotient
pub shorten_xor : (n d u v : ℕ) → coefficient n (bit_xor u v % 2 ^ (n * d)) ≡ plus (coefficient n (u % 2 ^ (n * d))) (coefficient n (v % 2 ^ (n * d)))
shorten_xor n d u v = fun_ext (λ i. ap (λ x. coefficient n x i) (xor_mod u v (n * d)) ∙ coefficient_xor n (u % 2 ^ (n * d)) (v % 2 ^ (n * d)) i)

pub packed_xor : (n d : ℕ) (f h : ℕ → ℕ) → AllBelow n f → AllBelow n h → packed n d (plus f h) ≡ bit_xor (packed n d f) (packed n d h)
packed_xor n zero f h bf bh = sym (xor_self 0)
packed_xor n (suc d) f h bf bh =
    ap (λ x. x * 2 ^ n + bit_xor (f 0) (h 0)) (packed_xor n d (rest f) (rest h) (λ i. bf (suc i)) (λ i. bh (suc i)))
    ∙ sym (xor_block n (packed n d (rest f)) (packed n d (rest h)) (f 0) (h 0) (bf 0) (bh 0))

pub coefficient_one : (n : ℕ) → 1 ≤ n → coefficient n 1 ≡ unit
coefficient_one n h = fun_ext (at n h)
  where
    at : (n : ℕ) → 1 ≤ n → (i : ℕ) → coefficient n 1 i ≡ unit i
    at n h zero = coefficient_zero n 1 ∙ mod-eq_of_lt (one_below_pow n h)
    at n h (suc i) = coefficient_suc n 1 i ∙ ap (λ x. coefficient n x i) (div-eq_of_lt (one_below_pow n h)) ∙ coefficient_none n i

pub packed_extra : (n d : ℕ) (f : ℕ → ℕ) → EndsAt d f → packed n (suc d) f ≡ packed n d f
packed_extra n zero f ends = zero-add_of (2 ^ n) (f 0) (ends 0 (omega arith))
  where
    zero-add_of : (b a : ℕ) → a ≡ 0 → 0 * b + a ≡ 0
    zero-add_of b a h = ap (λ x. x + a) (zero-mul b) ∙ zero-add a ∙ h
packed_extra n (suc d) f ends = ap (λ x. x * 2 ^ n + f 0) (packed_extra n d (rest f) (λ i h. ends (suc i) (omega arith)))

pub packed_none : (n d : ℕ) → packed n d none ≡ 0
packed_none n zero = refl
packed_none n (suc d) = ap (λ x. x * 2 ^ n + 0) (packed_none n d) ∙ ap (λ x. x + 0) (zero-mul (2 ^ n))

pub self_below : (n : ℕ) → n < 2 ^ n
self_below zero = pow_pos 0
self_below (suc n) = let h : n < 2 ^ n = self_below n in rw (pow-suc) (omega arith)

-- a number whose coefficients end is small
packed_longer : (n m t : ℕ) (f : ℕ → ℕ) → EndsAt m f → packed n (m + t) f ≡ packed n m f
packed_longer n m zero f h = ap (λ x. packed n x f) (add-zero m)
packed_longer n m (suc t) f h = ap (λ x. packed n x f) (add-suc m t) ∙ packed_extra n (m + t) f (λ i l. h i (omega arith)) ∙ packed_longer n m t f h

pub below_from_ends : (n m a : ℕ) → 1 ≤ n → EndsAt m (coefficient n a) → a < 2 ^ (n * m)
below_from_ends n m a some h =
    rw (sym (packed-coefficient n (m + a) a wide) ∙ packed_longer n m a (coefficient n a) h) (packed_below n m (coefficient n a) (coefficient_below n a))
  where
    wide : a < 2 ^ (n * (m + a))
    wide = lt_of_lt_of_le (self_below a) (pow_mono (le_trans (le_trans (omega arith) (at_most_once (m + a))) (mul-le-mul_right (m + a) some)))
