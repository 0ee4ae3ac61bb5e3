-- The steps of products by tables, in the terms that the code computes.
use Rattle.std.proofs.Common.{◌≡◌, ◌≢◌, ℕ, zero, suc, sym, ◌∙◌, ap, ap₂, ◌<◌, ◌≤◌, ◌^◌, ◌+◌, ◌-◌, ◌*◌, ◌/◌, ◌%◌, inl, inr, arith, pow_mono, lt_of_lt_of_le, shr-shr, one-mul, zero-mul, mod-lt, pow_pos, mul_assoc, pow-add, bit_and, subst, List, length, replicate, get_or, set, get_or-set_other, length-set}
use Rattle.std.proofs.lemmas.List.{get_or-set_same}
use Rattle.std.proofs.Math.Nat.{mul-lt-mul_of_pos_right}
use Rattle.std.specs.Prelude.{bit_xor}
use Rattle.std.specs.Int.Bits.{and_mask, xor_mod, xor_comm, xor_lt, xor_zero_l, xor_zero_r}
use Rattle.std.proofs.lemmas.Nat.{shl-shr, shr_below}
use Rattle.std.proofs.lemmas.Nat.Bits.{ones_shr}
use Rattle.std.proofs.lemmas.Bool.{cases_eq}
use native.Mathlib.Nat.{mod-eq_of_lt, div-one}
use Rattle.lists.specs.laws.NumberLaws.{bit_cases, suc_less_one}
use Rattle.lists.specs.laws.PowerLaws.{masked, cut_twice}
use Rattle.gf_field.specs.Bit.{bit_mul}
use Rattle.gf_field.specs.Modulus.{IsModulus}
use Rattle.gf_field.specs.Polynomial.{IsProductModulo}
use Rattle.gf_field.specs.Quotient.{product}
use Rattle.gf_field.specs.Table16.{AreMultiples}
use Rattle.gf_field.specs.laws.BitLaws.{IsRing-bit_mul}
use Rattle.gf_field.specs.laws.ModulusLaws.{IsMonic-from_modulus, IsRing-from_modulus}
use Rattle.gf_field.specs.laws.ProductLaws.{IsProductModulo-product}
use Rattle.gf_field.specs.private.ShiftAndAdd.{times_x, times_power, part, AreParts}
use Rattle.gf_field.proofs.CopyLemmas.{zeros}
use Rattle.gf_field.proofs.ShiftAndAddLaws.{times_x_reduced, times_x_doubled}
use Rattle.gf_field.proofs.PartLaws.{element_x, x_zero, part_zero, part_start, part_suc, part_longer, part_product, part_same, part_split, part_whole, power_steps}

pub below_64 : (d g a : ℕ) → IsModulus d g → a < 2 ^ d → a < 2 ^ 64
below_64 d g a ok h = lt_of_lt_of_le h (pow_mono ok.small)

-- ---- x times an element
top_bit : (a e : ℕ) → bit_and (a / 2 ^ (suc e - 1)) 1 ≡ a / 2 ^ e % 2
top_bit a e = ap (λ x. bit_and (a / 2 ^ x) 1) (suc_less_one e) ∙ and_mask (a / 2 ^ e) 1

pub x_then : (d g a : ℕ) → IsModulus d g → a < 2 ^ d → bit_and (a / 2 ^ (d - 1)) 1 ≡ 1 → bit_xor (a * 2 % 2 ^ 64) (bit_and g 18446744073709551615) ≡ times_x d g a
x_then zero g a ok h is = absurd (omega (arith, ok.some))
x_then (suc e) g a ok h is =
    ap (bit_xor (a * 2 % 2 ^ 64)) (and_mask g 64) ∙ sym (xor_mod (a * 2) g 64)
    ∙ ap (λ x. x % 2 ^ 64) (sym (times_x_reduced e g ok a h (sym (top_bit a e) ∙ is)))
    ∙ mod-eq_of_lt (below_64 (suc e) g (times_x (suc e) g a) ok (element_x (suc e) g a ok))

pub x_else : (d g a : ℕ) → IsModulus d g → a < 2 ^ d → bit_and (a / 2 ^ (d - 1)) 1 ≢ 1 → a * 2 % 2 ^ 64 ≡ times_x d g a
x_else zero g a ok h is = absurd (omega (arith, ok.some))
x_else (suc e) g a ok h is =
    ap (λ x. x % 2 ^ 64) (sym (times_x_doubled e g ok a h low))
    ∙ mod-eq_of_lt (below_64 (suc e) g (times_x (suc e) g a) ok (element_x (suc e) g a ok))
  where
    low : a / 2 ^ e % 2 ≡ 0
    low = elim (bit_cases (a / 2 ^ e % 2) (omega arith)) [
      | inl z ↦ z
      | inr o ↦ absurd (is (top_bit a e ∙ o))
    ]

-- ---- a table is filled
module _ (d g a : ℕ) (ok : IsModulus d g) (h : a < 2 ^ d) where
  shorter : (n : ℕ) → n < 8 → part d g 4 n a ≡ part d g 3 n a
  shorter n l = part_longer d g ok 3 1 n a l h

  pub even_part : (n : ℕ) → n < 8 → times_x d g (part d g 4 n a) ≡ part d g 4 (2 * n) a
  even_part n l =
      ap (times_x d g) (shorter n l ∙ ap (λ x. part d g 3 x a) (sym half))
      ∙ sym (xor_zero_l (times_x d g (part d g 3 (2 * n / 2) a)))
      ∙ ap (λ x. bit_xor x (times_x d g (part d g 3 (2 * n / 2) a))) (sym (ap (λ x. x * a) last ∙ zero-mul a))
      ∙ sym (part_suc d g 3 (2 * n) a ok h)
    where
      half : 2 * n / 2 ≡ n
      half = omega arith

      last : 2 * n % 2 ≡ 0
      last = omega arith

  pub odd_part : (n : ℕ) → n < 8 → bit_xor (times_x d g (part d g 4 n a)) a ≡ part d g 4 (2 * n + 1) a
  odd_part n l =
      xor_comm (times_x d g (part d g 4 n a)) a
      ∙ ap₂ bit_xor (sym (ap (λ x. x * a) last ∙ one-mul a)) (ap (times_x d g) (shorter n l ∙ ap (λ x. part d g 3 x a) (sym half)))
      ∙ sym (part_suc d g 3 (2 * n + 1) a ok h)
    where
      half : (2 * n + 1) / 2 ≡ n
      half = omega arith

      last : (2 * n + 1) % 2 ≡ 1
      last = omega arith

  pub first_two : (m : ℕ) → m < 2 → get_or (set (replicate {A = ℕ} 16 0) 1 a) m 0 ≡ part d g 4 m a
  first_two zero l = let ne : ◌≢◌ {A = ℕ} 0 1 = omega arith in rw get_or-set_other (zeros 16 0 ∙ sym (part_zero d g ok 4 a h))
  first_two (suc zero) l =
      get_or-set_same (replicate {A = ℕ} 16 0) 1 a 0 (omega arith)
      ∙ sym (part_suc d g 3 1 a ok h ∙ ap₂ bit_xor (one-mul a) (ap (times_x d g) (part_zero d g ok 3 a h) ∙ x_zero d g ok) ∙ xor_zero_r a)
  first_two (suc (suc m)) l = absurd (omega arith)

  pub two_more : (xs : List ℕ) (n even : ℕ) → length xs ≡ 16 → n < 8 → even ≡ times_x d g (part d g 4 n a) → ((m : ℕ) → m < 2 * n → get_or xs m 0 ≡ part d g 4 m a)
      → (m : ℕ) → m < 2 * (n + 1) → get_or (set (set xs (2 * n) even) (2 * n + 1) (bit_xor even a)) m 0 ≡ part d g 4 m a
  two_more xs n even whole l is done m below = elim (cases_eq m (2 * n + 1)) [
    | inl odd ↦ rw (odd) (get_or-set_same (set xs (2 * n) even) (2 * n + 1) (bit_xor even a) 0 (omega (arith, length-set xs (2 * n) even)) ∙ ap (λ x. bit_xor x a) is ∙ odd_part n l)
    | inr not_odd ↦ rw get_or-set_other (elim (cases_eq m (2 * n)) [
      | inl same ↦ rw (same) (get_or-set_same xs (2 * n) even 0 (omega arith) ∙ is ∙ even_part n l)
      | inr other ↦ rw get_or-set_other (done m (omega arith))
    ])
  ]

pub are_multiples : (d g a : ℕ) (entries : List ℕ) → IsModulus d g → a < 2 ^ d → AreParts d g a entries → AreMultiples d g a entries
are_multiples d g a entries ok h are n l = rw (are n l) (part_product d g 4 n a ok l h)

-- ---- x^4 times an element

-- the four bits that leave the top
left_bits : (d a : ℕ) → d ≤ 64 → a < 2 ^ d → a * 2 ^ (64 - d) % 2 ^ 64 / 2 ^ 60 ≡ a * 16 / 2 ^ d
left_bits d a small h =
    ap (λ x. x / 2 ^ 60) (mod-eq_of_lt fits)
    ∙ ap (λ x. x / 2 ^ 60) (sym (shl-shr (a * 2 ^ (64 - d)) d))
    ∙ shr-shr (a * 2 ^ (64 - d) * 2 ^ d) d 60
    ∙ ap₂ (λ x y. x / 2 ^ y) (mul_assoc a (2 ^ (64 - d)) (2 ^ d) ∙ ap (λ x. a * x) (sym (pow-add 2 (64 - d) d) ∙ ap (λ x. 2 ^ x) (back d small)) ∙ sym (mul_assoc a 16 (2 ^ 60))) (turned d)
    ∙ sym (shr-shr (a * 16 * 2 ^ 60) 60 d)
    ∙ ap (λ x. x / 2 ^ d) (shl-shr (a * 16) 60)
  where
    back : (d : ℕ) → d ≤ 64 → (64 - d) + d ≡ 64
    back d h = omega arith

    turned : (d : ℕ) → d + 60 ≡ 60 + d
    turned d = omega arith

    fits : a * 2 ^ (64 - d) < 2 ^ 64
    fits = subst (λ (x : ℕ). a * 2 ^ (64 - d) < 2 ^ x) (ahead d small) (rw (pow-add) (mul-lt-mul_of_pos_right h (pow_pos (64 - d))))
      where
        ahead : (d : ℕ) → d ≤ 64 → d + (64 - d) ≡ 64
        ahead d h = omega arith

pub four_steps : (d g a : ℕ) (entries : List ℕ) → IsModulus d g → a < 2 ^ d → AreParts d g (g % 2 ^ d) entries
    → bit_xor (bit_and (a * 2 ^ 4 % 2 ^ 64) (18446744073709551615 / 2 ^ (64 - d))) (get_or entries (a * 2 ^ (64 - d) % 2 ^ 64 / 2 ^ 60) 0) ≡ times_power d g 4 a
four_steps d g a entries ok h are =
    ap₂ bit_xor (masked d (a * 16 % 2 ^ 64) ok.small ∙ cut_twice d (a * 16) ok.small) (ap (λ x. get_or entries x 0) (left_bits d a ok.small h) ∙ are (a * 16 / 2 ^ d) four)
    ∙ sym (power_steps d g ok 4 a h)
  where
    four : a * 16 / 2 ^ d < 16
    four = shr_below (a * 16) 4 d (rw (pow-add) (omega arith))

pub power_element : (d g m a : ℕ) → IsModulus d g → a < 2 ^ d → times_power d g m a < 2 ^ d
unfolding times_power
power_element d g zero a ok h = h
power_element d g (suc m) a ok h = element_x d g (times_power d g m a) ok

-- ---- a product by a table
pub group_start : (d g n b a : ℕ) → IsModulus d g → 0 ≡ part d g (4 * (n - n)) (b / 2 ^ (4 * n)) a
group_start d g n b a ok = sym (ap (λ x. part d g x (b / 2 ^ (4 * n)) a) (none n) ∙ part_start d g (b / 2 ^ (4 * n)) a ok)
  where
    none : (n : ℕ) → 4 * (n - n) ≡ 0
    none n = omega arith

pub group_step : (d g n i b a : ℕ) (entries : List ℕ) (s r : ℕ) → IsModulus d g → a < 2 ^ d → AreMultiples d g a entries → suc i ≤ n
    → s ≡ part d g (4 * (n - suc i)) (b / 2 ^ (4 * suc i)) a → r ≡ times_power d g 4 s
    → bit_xor r (get_or entries (bit_and (b / 2 ^ (4 * i)) 15) 0) ≡ part d g (4 * (n - i)) (b / 2 ^ (4 * i)) a
group_step d g n i b a entries s r ok h are l s_is r_is =
    xor_comm r (get_or entries (bit_and (b / 2 ^ (4 * i)) 15) 0)
    ∙ ap₂ bit_xor
    (ap (λ x. get_or entries x 0) (and_mask (b / 2 ^ (4 * i)) 4) ∙ part_same d g 4 (b / 2 ^ (4 * i) % 16) a (get_or entries (b / 2 ^ (4 * i) % 16) 0) ok low h (are (b / 2 ^ (4 * i) % 16) low))
    (r_is ∙ ap (times_power d g 4) (s_is ∙ ap (λ x. part d g (4 * (n - suc i)) x a) (ap (λ x. b / 2 ^ x) (next i) ∙ sym (shr-shr b (4 * i) 4))))
    ∙ sym (part_split d g ok 4 (4 * (n - suc i)) (b / 2 ^ (4 * i)) a h)
    ∙ ap (λ x. part d g x (b / 2 ^ (4 * i)) a) (one_less n i l)
  where
    low : b / 2 ^ (4 * i) % 16 < 16
    low = mod-lt (b / 2 ^ (4 * i)) (omega arith)

    next : (i : ℕ) → 4 * suc i ≡ 4 * i + 4
    next i = omega arith

    one_less : (n i : ℕ) → suc i ≤ n → 4 + 4 * (n - suc i) ≡ 4 * (n - i)
    one_less n i l = omega arith

pub group_element : (d g a : ℕ) (entries : List ℕ) (r u : ℕ) → AreMultiples d g a entries → r < 2 ^ d → bit_xor r (get_or entries (bit_and u 15) 0) < 2 ^ d
group_element d g a entries r u are h =
    xor_lt d r (get_or entries (bit_and u 15) 0) h (rw (and_mask u 4) (rw one-mul at (are (u % 16) (mod-lt u (omega arith))).short))

pub group_end : (d g b a s : ℕ) → IsModulus d g → a < 2 ^ d → b < 2 ^ d → s ≡ part d g (4 * ((d + 3) / 4 - 0)) (b / 2 ^ (4 * 0)) a → s ≡ product 1 d bit_mul g a b
group_end d g b a s ok ha hb is =
    is ∙ ap₂ (λ x y. part d g x y a) (rounded d) (div-one b)
    ∙ part_longer d g ok d (4 * ((d + 3) / 4) - d) b a hb ha
    ∙ part_whole d g b a ok hb ha
    ∙ (IsRing-from_modulus d g ok).comm b a
  where
    rounded : (d : ℕ) → 4 * ((d + 3) / 4 - 0) ≡ d + (4 * ((d + 3) / 4) - d)
    rounded d = omega arith

pub remainder_is : (d g a b s : ℕ) → IsModulus d g → a < 2 ^ d → b < 2 ^ d → s ≡ product 1 d bit_mul g a b → IsProductModulo 1 d bit_mul g a b s
remainder_is zero g a b s ok ha hb e = absurd (omega (arith, ok.some))
remainder_is (suc e) g a b s ok ha hb is =
    rw (is) (IsProductModulo-product 1 bit_mul IsRing-bit_mul e g (IsMonic-from_modulus (suc e) g ok) a b (rw one-mul ha) (rw one-mul hb))

-- ---- the lower part of a modulus
pub lower : (d g : ℕ) → IsModulus d g → bit_and g (340282366920938463463374607431768211455 / 2 ^ (128 - d)) ≡ g % 2 ^ d
lower d g ok = ap (bit_and g) (ones_shr 128 (128 - d) (omega arith) ∙ ap (λ y. 2 ^ y - 1) (back d ok.small)) ∙ and_mask g d
  where
    back : (d : ℕ) → d ≤ 64 → 128 - (128 - d) ≡ d
    back d h = omega arith
