-- Products of polynomials over 0 and 1 by groups of bits.
use Rattle.std.proofs.Common.{◌≡◌, ℕ, zero, suc, refl, sym, ◌∙◌, ap, ap₂, ◌<◌, ◌^◌, ◌+◌, ◌*◌, ◌/◌, ◌%◌, ◌⊎◌, inl, inr, arith, one-mul, zero-mul, add-one, pow-suc, pow_pos, shr-shr, one-add, mod-lt, add_comm, mul_comm, mul_assoc}
use Rattle.std.specs.Prelude.{bit_xor}
use Rattle.std.specs.Int.Bits.{xor_assoc, xor_self, xor_zero_l, xor_zero_r, xor_mod}
use Rattle.std.proofs.lemmas.Nat.{shl-shr, shr_split, shr_below, mod-pow-add}
use Rattle.std.proofs.Math.Nat.{add-mul-div_right, add-mul-mod_self_right, suc-add, zero-add, mul-one}
use native.Mathlib.Nat.{mod-eq_of_lt, div-one}
use Rattle.lists.specs.laws.NumberLaws.{bit_cases}
use Rattle.lists.specs.laws.PowerLaws.{half_below_pow}
use Rattle.gf_field.specs.Bit.{bit_mul}
use Rattle.gf_field.specs.Modulus.{IsModulus}
use Rattle.gf_field.specs.Polynomial.{IsProductModulo}
use Rattle.gf_field.specs.Quotient.{product}
use Rattle.gf_field.specs.laws.BitLaws.{IsRing-bit_mul}
use Rattle.gf_field.specs.laws.ModulusLaws.{IsMonic-from_modulus}
use Rattle.gf_field.specs.laws.ProductLaws.{IsProduct_same}
use Rattle.gf_field.specs.private.ShiftAndAdd.{times_x, times_power, part}
use Rattle.gf_field.proofs.ShiftAndAddLaws.{times_x_reduced, times_x_doubled, times_x_below, times_x-xor, part_none, part_below, part_next, part_end, IsProductModulo-part}

pub element_x : (d g a : ℕ) → IsModulus d g → times_x d g a < 2 ^ d
element_x zero g a ok = absurd (omega (arith, ok.some))
element_x (suc e) g a ok = times_x_below e g ok a

pub x-xor : (d g a b : ℕ) → IsModulus d g → times_x d g (bit_xor a b) ≡ bit_xor (times_x d g a) (times_x d g b)
x-xor zero g a b ok = absurd (omega (arith, ok.some))
x-xor (suc e) g a b ok = times_x-xor e g ok a b

pub part_start : (d g u v : ℕ) → IsModulus d g → part d g 0 u v ≡ 0
part_start zero g u v ok = absurd (omega (arith, ok.some))
part_start (suc e) g u v ok = part_none e g ok u v

pub part_element : (d g m u v : ℕ) → IsModulus d g → part d g m u v < 2 ^ d
part_element zero g m u v ok = absurd (omega (arith, ok.some))
part_element (suc e) g m u v ok = part_below e g ok m u v

pub part_suc : (d g m u v : ℕ) → IsModulus d g → v < 2 ^ d → part d g (suc m) u v ≡ bit_xor (u % 2 * v) (times_x d g (part d g m (u / 2) v))
part_suc zero g m u v ok h = absurd (omega (arith, ok.some))
part_suc (suc e) g m u v ok h = part_next e g ok m u v h

pub part_whole : (d g a b : ℕ) → IsModulus d g → a < 2 ^ d → b < 2 ^ d → part d g d a b ≡ product 1 d bit_mul g a b
part_whole zero g a b ok ha hb = absurd (omega (arith, ok.some))
part_whole (suc e) g a b ok ha hb = part_end e g ok a b ha hb

pub part_product : (d g m u v : ℕ) → IsModulus d g → u < 2 ^ m → v < 2 ^ d → IsProductModulo 1 d bit_mul g u v (part d g m u v)
part_product zero g m u v ok hu hv = absurd (omega (arith, ok.some))
part_product (suc e) g m u v ok hu hv = IsProductModulo-part e g ok m u v hu hv

-- a product of the definition is the one that is computed
pub part_same : (d g m u v w : ℕ) → IsModulus d g → u < 2 ^ m → v < 2 ^ d → IsProductModulo 1 d bit_mul g u v w → w ≡ part d g m u v
part_same zero g m u v w ok hu hv is = absurd (omega (arith, ok.some))
part_same (suc e) g m u v w ok hu hv is =
    IsProduct_same 1 bit_mul IsRing-bit_mul e g (IsMonic-from_modulus (suc e) g ok) u v w (part (suc e) g m u v) is (part_product (suc e) g m u v ok hu hv)

-- x times a in one step: what leaves the top comes back as the modulus's lower part
pub x_steps : (d g a : ℕ) → IsModulus d g → a < 2 ^ d → times_x d g a ≡ bit_xor (a * 2 % 2 ^ d) (a * 2 / 2 ^ d * (g % 2 ^ d))
x_steps zero g a ok h = absurd (omega (arith, ok.some))
x_steps (suc e) g a ok h =
    sym (mod-eq_of_lt (times_x_below e g ok a)) ∙ by_top (a / 2 ^ e) refl (bit_cases (a / 2 ^ e) (shr_below a 1 e (rw (one-add) h)))
  where
    halves : a * 2 / 2 ^ suc e ≡ a / 2 ^ e
    halves = ap (λ x. a * 2 / 2 ^ x) (sym (one-add e)) ∙ sym (shr-shr (a * 2) 1 e) ∙ ap (λ x. x / 2 ^ e) (shl-shr a 1)

    by_top : (t : ℕ) → a / 2 ^ e ≡ t → (t ≡ 0) ⊎ (t ≡ 1) → times_x (suc e) g a % 2 ^ suc e ≡ bit_xor (a * 2 % 2 ^ suc e) (a * 2 / 2 ^ suc e * (g % 2 ^ suc e))
    by_top t is (inl z) =
        ap (λ x. x % 2 ^ suc e) (times_x_doubled e g ok a h (ap (λ x. x % 2) (is ∙ z)))
        ∙ sym (xor_zero_r (a * 2 % 2 ^ suc e))
        ∙ ap (bit_xor (a * 2 % 2 ^ suc e)) (sym (zero-mul (g % 2 ^ suc e)) ∙ ap (λ x. x * (g % 2 ^ suc e)) (sym (halves ∙ is ∙ z)))
    by_top t is (inr o) =
        ap (λ x. x % 2 ^ suc e) (times_x_reduced e g ok a h (ap (λ x. x % 2) (is ∙ o)))
        ∙ xor_mod (a * 2) g (suc e)
        ∙ ap (bit_xor (a * 2 % 2 ^ suc e)) (sym (one-mul (g % 2 ^ suc e)) ∙ ap (λ x. x * (g % 2 ^ suc e)) (sym (halves ∙ is ∙ o)))

-- doubling a number and cutting it at 2^d
cut_low : (d w : ℕ) → w * 2 % 2 ^ d ≡ w % 2 ^ d * 2 % 2 ^ d
cut_low d w = ap (λ x. x % 2 ^ d) (double (w / 2 ^ d) (2 ^ d) (w % 2 ^ d) w (shr_split w d)) ∙ add-mul-mod_self_right (w % 2 ^ d * 2) (w / 2 ^ d * 2) (2 ^ d)
  where
    double : (q p r w : ℕ) → q * p + r ≡ w → w * 2 ≡ r * 2 + q * 2 * p
    double q p r w e = ap (λ x. x * 2) (sym e) ∙ spread (q * p) r ∙ ap (λ x. r * 2 + x) (mul_assoc q p 2 ∙ ap (λ x. q * x) (mul_comm p 2) ∙ sym (mul_assoc q 2 p))
      where
        spread : (a b : ℕ) → (a + b) * 2 ≡ b * 2 + a * 2
        spread a b = omega arith

cut_high : (d w : ℕ) → w * 2 / 2 ^ d ≡ w % 2 ^ d * 2 / 2 ^ d + w / 2 ^ d * 2
cut_high d w = ap (λ x. x / 2 ^ d) (double (w / 2 ^ d) (2 ^ d) (w % 2 ^ d) w (shr_split w d)) ∙ add-mul-div_right (w % 2 ^ d * 2) (w / 2 ^ d * 2) (pow_pos d)
  where
    double : (q p r w : ℕ) → q * p + r ≡ w → w * 2 ≡ r * 2 + q * 2 * p
    double q p r w e = ap (λ x. x * 2) (sym e) ∙ spread (q * p) r ∙ ap (λ x. r * 2 + x) (mul_assoc q p 2 ∙ ap (λ x. q * x) (mul_comm p 2) ∙ sym (mul_assoc q 2 p))
      where
        spread : (a b : ℕ) → (a + b) * 2 ≡ b * 2 + a * 2
        spread a b = omega arith

-- the last bit and the others
cut_mod : (j u : ℕ) → u % 2 ^ suc j ≡ u % 2 + u / 2 % 2 ^ j * 2
cut_mod j u = ap (λ x. u % 2 ^ x) (sym (add-one j)) ∙ mod-pow-add u j 1 ∙ add_comm (u / 2 % 2 ^ j * 2) (u % 2)

top_small : (d t : ℕ) → t < 2 ^ d → t * 2 / 2 ^ d < 2
top_small d t h = shr_below (t * 2) 1 d (rw (one-add, pow-suc) (omega arith))

module _ (d g : ℕ) (ok : IsModulus d g) where
  pub x_zero : times_x d g 0 ≡ 0
  x_zero = ap (times_x d g) (sym (xor_self 0)) ∙ x-xor d g 0 0 ok ∙ xor_self (times_x d g 0)

  pub part_zero : (m v : ℕ) → v < 2 ^ d → part d g m 0 v ≡ 0
  part_zero zero v h = part_start d g 0 v ok
  part_zero (suc m) v h = part_suc d g m 0 v ok h ∙ ap₂ bit_xor (zero-mul v) (ap (times_x d g) (part_zero m v h) ∙ x_zero) ∙ xor_self 0

  -- more coefficients than there are change nothing
  pub part_longer : (m t u v : ℕ) → u < 2 ^ m → v < 2 ^ d → part d g (m + t) u v ≡ part d g m u v
  part_longer zero t u v hu hv = let none : u ≡ 0 = omega arith in rw (none) (part_zero (0 + t) v hv ∙ sym (part_zero 0 v hv))
  part_longer (suc m) t u v hu hv =
      ap (λ x. part d g x u v) (suc-add m t)
      ∙ part_suc d g (m + t) u v ok hv
      ∙ ap (λ x. bit_xor (u % 2 * v) (times_x d g x)) (part_longer m t (u / 2) v (half_below_pow m u hu) hv)
      ∙ sym (part_suc d g m u v ok hv)

  -- the first j coefficients, and x^j times the others
  pub part_split : (j m u v : ℕ) → v < 2 ^ d → part d g (j + m) u v ≡ bit_xor (part d g j (u % 2 ^ j) v) (times_power d g j (part d g m (u / 2 ^ j) v))
  unfolding times_power
  part_split zero m u v h =
      ap₂ (λ x y. part d g x y v) (zero-add m) (sym (div-one u))
      ∙ sym (xor_zero_l (part d g m (u / 1) v))
      ∙ ap (λ x. bit_xor x (part d g m (u / 1) v)) (sym (part_start d g (u % 1) v ok))
  part_split (suc j) m u v h =
      ap (λ x. part d g x u v) (suc-add j m)
      ∙ part_suc d g (j + m) u v ok h
      ∙ ap (λ x. bit_xor (u % 2 * v) x) (ap (times_x d g) (part_split j m (u / 2) v h) ∙ x-xor d g (part d g j (u / 2 % 2 ^ j) v) (times_power d g j (part d g m (u / 2 / 2 ^ j) v)) ok)
      ∙ sym (xor_assoc (u % 2 * v) (times_x d g (part d g j (u / 2 % 2 ^ j) v)) (times_x d g (times_power d g j (part d g m (u / 2 / 2 ^ j) v))))
      ∙ ap₂ bit_xor
      (ap₂ (λ x y. bit_xor (x * v) (times_x d g (part d g j y v))) (sym (lowest j u)) (sym (others j u)) ∙ sym (part_suc d g j (u % 2 ^ suc j) v ok h))
      (ap (λ x. times_x d g (times_power d g j (part d g m x v))) (shr-shr u 1 j ∙ ap (λ x. u / 2 ^ x) (one-add j)))
    where
      cut : (j u : ℕ) → u % 2 ^ suc j ≡ u % 2 + u / 2 % 2 ^ j * 2
      cut j u = cut_mod j u

      lowest : (j u : ℕ) → u % 2 ^ suc j % 2 ≡ u % 2
      lowest j u = let e : u % 2 ^ suc j ≡ u % 2 + u / 2 % 2 ^ j * 2 = cut j u in omega arith

      others : (j u : ℕ) → u % 2 ^ suc j / 2 ≡ u / 2 % 2 ^ j
      others j u = let e : u % 2 ^ suc j ≡ u % 2 + u / 2 % 2 ^ j * 2 = cut j u in omega arith

  -- x^j times a: the j bits that leave the top come back as multiples of the modulus's lower part
  pub power_steps : (j a : ℕ) → a < 2 ^ d → times_power d g j a ≡ bit_xor (a * 2 ^ j % 2 ^ d) (part d g j (a * 2 ^ j / 2 ^ d) (g % 2 ^ d))
  unfolding times_power
  power_steps zero a h =
      sym (ap (λ x. x % 2 ^ d) (mul-one a) ∙ mod-eq_of_lt h)
      ∙ sym (xor_zero_r (a * 1 % 2 ^ d)) ∙ ap (bit_xor (a * 1 % 2 ^ d)) (sym (part_start d g (a * 1 / 2 ^ d) (g % 2 ^ d) ok))
  power_steps (suc j) a h =
      ap (times_x d g) (power_steps j a h)
      ∙ x-xor d g (a * 2 ^ j % 2 ^ d) (part d g j (a * 2 ^ j / 2 ^ d) (g % 2 ^ d)) ok
      ∙ ap (λ x. bit_xor x (times_x d g (part d g j (a * 2 ^ j / 2 ^ d) (g % 2 ^ d)))) (x_steps d g (a * 2 ^ j % 2 ^ d) ok (mod-lt (a * 2 ^ j) (pow_pos d)))
      ∙ xor_assoc (a * 2 ^ j % 2 ^ d * 2 % 2 ^ d) (a * 2 ^ j % 2 ^ d * 2 / 2 ^ d * (g % 2 ^ d)) (times_x d g (part d g j (a * 2 ^ j / 2 ^ d) (g % 2 ^ d)))
      ∙ ap₂ bit_xor (sym (cut_low d (a * 2 ^ j)) ∙ ap (λ x. x % 2 ^ d) (doubled a j))
      (ap₂ (λ x y. bit_xor (x * (g % 2 ^ d)) (times_x d g (part d g j y (g % 2 ^ d)))) (sym lowest) (sym others) ∙ sym (part_suc d g j (a * 2 ^ suc j / 2 ^ d) (g % 2 ^ d) ok (mod-lt g (pow_pos d))))
    where
      doubled : (a j : ℕ) → a * 2 ^ j * 2 ≡ a * 2 ^ suc j
      doubled a j = mul_assoc a (2 ^ j) 2 ∙ ap (λ x. a * x) (sym (pow-suc 2 j))

      whole : a * 2 ^ suc j / 2 ^ d ≡ a * 2 ^ j % 2 ^ d * 2 / 2 ^ d + a * 2 ^ j / 2 ^ d * 2
      whole = ap (λ x. x / 2 ^ d) (sym (doubled a j)) ∙ cut_high d (a * 2 ^ j)

      lowest : a * 2 ^ suc j / 2 ^ d % 2 ≡ a * 2 ^ j % 2 ^ d * 2 / 2 ^ d
      lowest = let s : a * 2 ^ j % 2 ^ d * 2 / 2 ^ d < 2 = top_small d (a * 2 ^ j % 2 ^ d) (mod-lt (a * 2 ^ j) (pow_pos d)) in let e = whole in omega arith

      others : a * 2 ^ suc j / 2 ^ d / 2 ≡ a * 2 ^ j / 2 ^ d
      others = let s : a * 2 ^ j % 2 ^ d * 2 / 2 ^ d < 2 = top_small d (a * 2 ^ j % 2 ^ d) (mod-lt (a * 2 ^ j) (pow_pos d)) in let e = whole in omega arith
