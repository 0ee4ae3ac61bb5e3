-- Products by x, and its powers.
use Rattle.std.proofs.Common.{◌≡◌, ℕ, zero, suc, refl, sym, ◌∙◌, ap, ap₂, ◌<◌, ◌≤◌, ◌^◌, ◌*◌, ◌/◌, ◌%◌, ◌⊎◌, inl, inr, arith, one-mul, zero-mul, pow-suc, subst}
use Rattle.std.specs.Prelude.{bit_xor}
use Rattle.std.specs.Int.Bits.{xor_self, xor_zero_l, xor_zero_r}
use Rattle.std.proofs.lemmas.Nat.{pow_below}
use Rattle.std.proofs.lemmas.Nat.Bits.{bit_at-pow_other}
use Rattle.std.proofs.Math.Nat.{mul-zero}
use Rattle.lists.specs.laws.NumberLaws.{bit_cases}
use Rattle.gf_field.specs.Bit.{bit_mul}
use Rattle.gf_field.specs.Modulus.{IsModulus}
use Rattle.gf_field.specs.Power.{power}
use Rattle.gf_field.specs.Polynomial.{IsProductModulo}
use Rattle.gf_field.specs.Quotient.{product}
use Rattle.gf_field.specs.private.ShiftAndAdd.{times_x, part}
use Rattle.gf_field.specs.laws.ModulusLaws.{modulus_below, modulus_above, IsRing-from_modulus}
use Rattle.gf_field.proofs.ShiftAndAddLaws.{times_x_reduced, times_x_doubled}
use Rattle.gf_field.proofs.PartLaws.{x-xor, part_start, part_suc, part_whole, part_product}
use Rattle.make_laws.specs.Indeterminate.{x_of}

-- x times 0
times_x-zero : (k g : ℕ) → IsModulus k g → times_x k g 0 ≡ 0
times_x-zero k g ok = ap (times_x k g) (sym (xor_self 0)) ∙ x-xor k g 0 0 ok ∙ xor_self (times_x k g 0)

-- no coefficients
part-zero : (k g m v : ℕ) → IsModulus k g → v < 2 ^ k → part k g m 0 v ≡ 0
part-zero k g zero v ok h = part_start k g 0 v ok
part-zero k g (suc m) v ok h =
    part_suc k g m 0 v ok h ∙ ap₂ bit_xor (zero-mul v) (ap (times_x k g) (part-zero k g m v ok h) ∙ times_x-zero k g ok) ∙ xor_self 0

part-one : (k g m v : ℕ) → IsModulus k g → v < 2 ^ k → part k g (suc m) 1 v ≡ v
part-one k g m v ok h =
    part_suc k g m 1 v ok h ∙ ap₂ bit_xor (one-mul v) (ap (times_x k g) (part-zero k g m v ok h) ∙ times_x-zero k g ok) ∙ xor_zero_r v

part-two : (k g m v : ℕ) → IsModulus k g → v < 2 ^ k → part k g (suc (suc m)) 2 v ≡ times_x k g v
part-two k g m v ok h =
    part_suc k g (suc m) 2 v ok h ∙ ap₂ bit_xor (zero-mul v) (ap (times_x k g) (part-one k g m v ok h)) ∙ xor_zero_l (times_x k g v)

-- modulo one of degree 1
pub line_modulus : (g : ℕ) → IsModulus 1 g → (g ≡ 2) ⊎ (g ≡ 3)
line_modulus g ok = at g (modulus_above 1 g ok) (modulus_below 1 g ok)
  where
    at : (g : ℕ) → 2 ^ 1 ≤ g → g < 2 ^ 2 → (g ≡ 2) ⊎ (g ≡ 3)
    at zero low high = absurd (omega arith)
    at (suc zero) low high = absurd (omega arith)
    at (suc (suc zero)) low high = inl refl
    at (suc (suc (suc zero))) low high = inr refl
    at (suc (suc (suc (suc g)))) low high = absurd (omega arith)

line_x : (g v : ℕ) → IsModulus 1 g → v < 2 ^ 1 → g % 2 * v ≡ times_x 1 g v
line_x g v ok h = elim (bit_cases v h) [
  | inl z ↦ rw z (mul-zero (g % 2) ∙ sym (times_x-zero 1 g ok))
  | inr o ↦ rw o (last (line_modulus g ok) ∙ sym (times_x_reduced 0 g ok 1 (omega arith) refl))
]
  where
    last : (g ≡ 2) ⊎ (g ≡ 3) → g % 2 * 1 ≡ bit_xor (1 * 2) g
    last (inl two) = rw two refl
    last (inr three) = rw three refl

-- the product by x
pub x_times : (k g v : ℕ) → IsModulus k g → v < 2 ^ k → product 1 k bit_mul g (x_of k g) v ≡ times_x k g v
x_times zero g v ok h = absurd (omega (arith, ok.some))
x_times (suc zero) g v ok h =
    sym (part_whole 1 g (g % 2) v ok (omega arith) h)
    ∙ part_suc 1 g 0 (g % 2) v ok h
    ∙ ap₂ bit_xor (ap (λ x. x * v) (last (g % 2) (omega arith))) (ap (times_x 1 g) (part_start 1 g (g % 2 / 2) v ok) ∙ times_x-zero 1 g ok)
    ∙ xor_zero_r (g % 2 * v)
    ∙ line_x g v ok h
  where
    last : (t : ℕ) → t < 2 → t % 2 ≡ t
    last t h = omega arith
x_times (suc (suc d)) g v ok h =
    sym (part_whole (suc (suc d)) g 2 v ok (pow_below 1 (suc (suc d)) (omega arith)) h) ∙ part-two (suc (suc d)) g d v ok h

pub x_below : (k g : ℕ) → IsModulus k g → x_of k g < 2 ^ k
x_below zero g ok = absurd (omega (arith, ok.some))
x_below (suc zero) g ok = omega arith
x_below (suc (suc d)) g ok = pow_below 1 (suc (suc d)) (omega arith)

-- x is the remainder of the polynomial x
pub x_is_remainder : (k g : ℕ) → IsModulus k g → IsProductModulo 1 k bit_mul g 2 1 (x_of k g)
x_is_remainder k g ok =
    subst (IsProductModulo 1 k bit_mul g 2 1) (part-two k g 0 1 ok (one_below k ok) ∙ sym (x_times k g 1 ok (one_below k ok)) ∙ one k ok) (part_product k g 2 2 1 ok (omega arith) (one_below k ok))
  where
    one_below : (k : ℕ) → IsModulus k g → 1 < 2 ^ k
    one_below k ok = pow_below 0 k ok.some

    one : (k : ℕ) → (ok : IsModulus k g) → product 1 k bit_mul g (x_of k g) 1 ≡ x_of k g
    one k ok = let ring = IsRing-from_modulus k g ok in ring.comm (x_of k g) 1 ∙ ring.one (x_of k g) (x_below k g ok)

-- the powers of x below the degree
pub power_x : (k g i : ℕ) → IsModulus k g → i < k → power (product 1 k bit_mul g) (x_of k g) i ≡ 2 ^ i
unfolding power
power_x k g zero ok h = refl
power_x zero g (suc i) ok h = absurd (omega arith)
power_x (suc e) g (suc i) ok h =
    ap (product 1 (suc e) bit_mul g (x_of (suc e) g)) (power_x (suc e) g i ok (omega arith))
    ∙ x_times (suc e) g (2 ^ i) ok (pow_below i (suc e) (omega arith))
    ∙ times_x_doubled e g ok (2 ^ i) (pow_below i (suc e) (omega arith)) (bit_at-pow_other i e (λ same. apart e i h same))
    ∙ twice (2 ^ i) (pow-suc 2 i)
  where
    apart : (e i : ℕ) → suc i < suc e → e ≡ i → ⊥
    apart e i h same = omega arith

    twice : (p : ℕ) {q : ℕ} → q ≡ p * 2 → p * 2 ≡ q
    twice p e = omega arith
