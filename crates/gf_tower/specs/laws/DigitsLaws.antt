-- The steps of a product in a tower, digit by digit.
use Rattle.std.proofs.Common.{◌≡◌, ℕ, zero, suc, refl, sym, ◌∙◌, ap, ap₂, ◌<◌, ◌≤◌, ◌^◌, ◌+◌, ◌*◌, ◌-◌, ◌/◌, ◌%◌, arith, pow_pos, mul-suc, mul-zero, shr-shr, add_comm, sub-eq-zero_of_le, add-zero, pow-add, pow_mono}
use Rattle.std.specs.Prelude.{bit_xor}
use Rattle.std.specs.Int.Bits.{xor_lt}
use Rattle.std.proofs.lemmas.Nat.{shr_high, mod_low, pow_below, mod-pow-add, field_of, shr_below}
use Rattle.std.proofs.Math.Pow.{mod-mod-pow}
use native.Mathlib.Nat.{mod-eq_of_lt, div-one}
use Rattle.std.proofs.Math.Nat.{mod-one}
use mathlib.Core.Path.{fun_ext}
use Rattle.gf_field.specs.Ring.{IsRing}
use Rattle.gf_field.specs.Polynomial.{coefficient}
use Rattle.gf_field.specs.Quotient.{times, plus, rest, shift, step, reduced, packed, product}
use Rattle.gf_field.specs.laws.QuotientLaws.{EndsAt, AllBelow, reduced_below, reduced_ends}
use Rattle.gf_field.specs.laws.PackingLaws.{coefficient_ends, coefficient_below, packed_xor, packed-coefficient, coefficient-packed, packed_below, coefficient_suc, coefficient_zero}
use Rattle.gf_field.specs.Polynomial.{IsMonic}
use Rattle.gf_field.specs.laws.PackingLaws.{packed_none}
use Rattle.gf_tower.specs.private.DigitSteps.{IsPacked, modulus_of, scaled, scaled_from, times_y, from_digit}

-- packing reads the first coefficients alone
packed_same : (n d : ℕ) (f h : ℕ → ℕ) → ((i : ℕ) → i < d → f i ≡ h i) → packed n d f ≡ packed n d h
packed_same n zero f h e = refl
packed_same n (suc d) f h e = ap₂ (λ x y. x * 2 ^ n + y) (packed_same n d (rest f) (rest h) (λ i l. e (suc i) (omega arith))) (e 0 (omega arith))

packed_short : (n d : ℕ) (f : ℕ → ℕ) → AllBelow n f → packed n d f ≡ packed n (suc d) f % 2 ^ (n * d)
packed_short n zero f b = sym (ap (λ x. packed n 1 f % 2 ^ x) (mul-zero n) ∙ mod-one (packed n 1 f))
packed_short n (suc d) f b =
    ap (λ x. x * 2 ^ n + f 0) (packed_short n d (rest f) (λ i. b (suc i)) ∙ ap (λ x. x % 2 ^ (n * d)) (sym (shr_high (packed n (suc d) (rest f)) n (f 0) (b 0))))
    ∙ ap (λ x. packed n (suc (suc d)) f / 2 ^ n % 2 ^ (n * d) * 2 ^ n + x) (sym (mod_low (packed n (suc d) (rest f)) n (f 0) (b 0)))
    ∙ sym (mod-pow-add (packed n (suc (suc d)) f) (n * d) n)
    ∙ ap (λ x. packed n (suc (suc d)) f % 2 ^ x) (sym (mul-suc n d))

digit_mod : (n d z i : ℕ) → i < d → coefficient n (z % 2 ^ (n * d)) i ≡ coefficient n z i
digit_mod n zero z i h = absurd (omega arith)
digit_mod n (suc d) z zero h = coefficient_zero n (z % 2 ^ (n * suc d)) ∙ ap (λ x. z % 2 ^ x % 2 ^ n) (mul-suc n d) ∙ mod-mod-pow z (n * d) n ∙ sym (coefficient_zero n z)
digit_mod n (suc d) z (suc i) h =
    coefficient_suc n (z % 2 ^ (n * suc d)) i
    ∙ ap (λ x. coefficient n (z % 2 ^ x / 2 ^ n) i) (mul-suc n d)
    ∙ ap (λ x. coefficient n x i) (field_of z (n * d) n)
    ∙ digit_mod n d (z / 2 ^ n) i (omega arith)
    ∙ sym (coefficient_suc n z i)

module _ (n e : ℕ) (mul : ℕ → ℕ → ℕ) (low : ℕ) (ring : IsRing n mul) (ok : IsPacked n (suc e) low) where
  top_digit : (d x y : ℕ) → y < 2 ^ (n * d) → coefficient n (x * 2 ^ (n * d) + y) d ≡ x % 2 ^ n
  top_digit d x y h = ap (λ z. z % 2 ^ n) (shr_high x (n * d) y h)

  pub IsMonic-digits : IsMonic n (suc e) (modulus_of n (suc e) low)
  IsMonic-digits = record {
    leading = top_digit (suc e) 1 low ok.below ∙ mod-eq_of_lt (pow_below 0 n ring.some);
    last = coefficient_ends n (suc (suc e)) (modulus_of n (suc e) low) (large (2 ^ (n * suc e)) (2 ^ n) low ok.below (pow_mono {i = 1} ring.some) (sum n (suc e)));
  }
    where
      sum : (n d : ℕ) → 2 ^ (n * suc d) ≡ 2 ^ (n * d) * 2 ^ n
      sum n d = ap (λ x. 2 ^ x) (mul-suc n d) ∙ pow-add 2 (n * d) n

      large : (p q y : ℕ) {r : ℕ} → y < p → 2 ≤ q → r ≡ p * q → 1 * p + y < r
      large p q y {r} h l e = rw e (grow p q y h l)
        where
          grow : (p q y : ℕ) → y < p → 2 ≤ q → 1 * p + y < p * q
          grow p q y h l = grind arith

  low_digit : (i : ℕ) → i < suc e → coefficient n (modulus_of n (suc e) low) i ≡ coefficient n low i
  low_digit i h = sym (digit_mod n (suc e) (modulus_of n (suc e) low) i h) ∙ ap (λ x. coefficient n x i) (mod_low 1 (n * suc e) low ok.below)

  times_below : (a : ℕ) (f : ℕ → ℕ) → AllBelow n (times mul a f)
  times_below a f i = ring.closed a (f i)

  pub scaled_below : (a v i : ℕ) → scaled_from n mul (suc e) a v i < 2 ^ (n * (suc e - i))
  unfolding scaled_from
  scaled_below a v i = packed_below n (suc e - i) (times mul a (coefficient n (v / 2 ^ (n * i)))) (times_below a (coefficient n (v / 2 ^ (n * i))))

  pub scaled_start : (a v : ℕ) → scaled_from n mul (suc e) a v (suc e) ≡ 0
  unfolding scaled_from
  scaled_start a v = ap (λ x. packed n x (times mul a (coefficient n (v / 2 ^ (n * suc e))))) (sub-eq-zero_of_le (omega arith))

  rest_digits : (a i : ℕ) → rest (coefficient n (a / 2 ^ (n * i))) ≡ coefficient n (a / 2 ^ (n * suc i))
  rest_digits a i = fun_ext (λ j. coefficient_suc n (a / 2 ^ (n * i)) j ∙ ap (λ x. coefficient n x j) (shr-shr a (n * i) n ∙ ap (λ x. a / 2 ^ x) (sym (mul-suc n i))))

  suc_left : (i : ℕ) → i < suc e → suc e - i ≡ suc (suc e - suc i)
  suc_left i h = omega arith

  pub scaled_step : (a v i : ℕ) → i < suc e → scaled_from n mul (suc e) a v i ≡ scaled_from n mul (suc e) a v (suc i) * 2 ^ n + mul a (v / 2 ^ (n * i) % 2 ^ n)
  unfolding scaled_from
  scaled_step a v i h =
      ap (λ x. packed n x (times mul a (coefficient n (v / 2 ^ (n * i))))) (suc_left i h)
      ∙ ap₂ (λ f x. packed n (suc e - suc i) (times mul a f) * 2 ^ n + mul a x) (rest_digits v i) (coefficient_zero n (v / 2 ^ (n * i)))

  pub scaled_end : (a v : ℕ) → scaled_from n mul (suc e) a v 0 ≡ scaled n mul (suc e) a v
  unfolding scaled scaled_from
  scaled_end a v = ap₂ (λ x y. packed n x (times mul a (coefficient n (v / 2 ^ y)))) whole (mul-zero n) ∙ ap (λ x. packed n (suc e) (times mul a (coefficient n x))) (div-one v)
    where
      whole : suc e - 0 ≡ suc e
      whole = omega arith

  pub scaled_element : (a v : ℕ) → scaled n mul (suc e) a v < 2 ^ (n * suc e)
  unfolding scaled
  scaled_element a v = packed_below n (suc e) (times mul a (coefficient n v)) (times_below a (coefficient n v))

  shift_below : (f : ℕ → ℕ) → AllBelow n f → AllBelow n (shift f)
  shift_below f b zero = pow_pos n
  shift_below f b (suc i) = b i

  -- Y times a is a shift, and the highest digit times the modulus
  pub times_y_is : (a : ℕ) → a < 2 ^ (n * suc e) → times_y n mul (suc e) (modulus_of n (suc e) low) a ≡ bit_xor (a * 2 ^ n % 2 ^ (n * suc e)) (scaled n mul (suc e) (a / 2 ^ (n * e)) low)
  unfolding times_y scaled
  times_y_is a h =
      packed_xor n (suc e) (shift (coefficient n a)) (times mul (coefficient n a e) (coefficient n (modulus_of n (suc e) low))) (shift_below (coefficient n a) (coefficient_below n a)) (times_below (coefficient n a e) (coefficient n (modulus_of n (suc e) low)))
      ∙ ap₂ bit_xor
      (packed_short n (suc e) (shift (coefficient n a)) (shift_below (coefficient n a) (coefficient_below n a))
      ∙ ap (λ x. x % 2 ^ (n * suc e)) (add-zero (packed n (suc e) (coefficient n a) * 2 ^ n) ∙ ap (λ x. x * 2 ^ n) (packed-coefficient n (suc e) a h)))
      (packed_same n (suc e) (times mul (coefficient n a e) (coefficient n (modulus_of n (suc e) low))) (times mul (a / 2 ^ (n * e)) (coefficient n low))
      (λ i l. ap₂ mul top (low_digit i l)))
    where
      top : coefficient n a e ≡ a / 2 ^ (n * e)
      top = mod-eq_of_lt (shr_below a n (n * e) (rw (mul-suc n e ∙ add_comm (n * e) n) at h))

  pub times_y_element : (a : ℕ) → times_y n mul (suc e) (modulus_of n (suc e) low) a < 2 ^ (n * suc e)
  unfolding times_y
  times_y_element a = packed_below n (suc e) (step mul e (coefficient n (modulus_of n (suc e) low)) (coefficient n a)) (step_below (coefficient n a) (coefficient_below n a))
    where
      step_below : (f : ℕ → ℕ) → AllBelow n f → AllBelow n (step mul e (coefficient n (modulus_of n (suc e) low)) f)
      step_below f b i = xor_lt n _ _ (shift_below f b i) (ring.closed (f e) (coefficient n (modulus_of n (suc e) low) i))

  digits_from : (a b m i : ℕ) → ℕ → ℕ
  digits_from a b m i = reduced mul e (coefficient n (modulus_of n (suc e) low)) m (coefficient n (a / 2 ^ (n * i))) (coefficient n b)

  digits_from_below : (a b m i : ℕ) → AllBelow n (digits_from a b m i)
  unfolding digits_from
  digits_from_below a b m i = reduced_below n mul ring e (coefficient n (modulus_of n (suc e) low)) m (coefficient n (a / 2 ^ (n * i))) (coefficient n b) (coefficient_below n b)

  digits_from_end : (a b m i : ℕ) → b < 2 ^ (n * suc e) → EndsAt (suc e) (digits_from a b m i)
  unfolding digits_from
  digits_from_end a b m i h = reduced_ends n mul ring e (coefficient n (modulus_of n (suc e) low)) IsMonic-digits.leading IsMonic-digits.last m (coefficient n (a / 2 ^ (n * i))) (coefficient n b) (coefficient_below n b) (coefficient_ends n (suc e) b h)

  pub from_digit_start : (a b : ℕ) → from_digit n mul (suc e) (modulus_of n (suc e) low) a b (suc e) ≡ 0
  unfolding from_digit
  from_digit_start a b = ap (λ m. packed n (suc e) (reduced mul e (coefficient n (modulus_of n (suc e) low)) m (coefficient n (a / 2 ^ (n * suc e))) (coefficient n b))) (sub-eq-zero_of_le (omega arith)) ∙ packed_none n (suc e)

  pub from_digit_element : (a b i : ℕ) → from_digit n mul (suc e) (modulus_of n (suc e) low) a b i < 2 ^ (n * suc e)
  unfolding from_digit digits_from
  from_digit_element a b i = packed_below n (suc e) (digits_from a b (suc e - i) i) (digits_from_below a b (suc e - i) i)

  digits_from_open : (a b m i : ℕ) → digits_from a b (suc m) i ≡ plus (times mul (a / 2 ^ (n * i) % 2 ^ n) (coefficient n b)) (step mul e (coefficient n (modulus_of n (suc e) low)) (digits_from a b m (suc i)))
  unfolding digits_from
  digits_from_open a b m i =
      ap₂ (λ x f. plus (times mul x (coefficient n b)) (step mul e (coefficient n (modulus_of n (suc e) low)) (reduced mul e (coefficient n (modulus_of n (suc e) low)) m f (coefficient n b)))) (coefficient_zero n (a / 2 ^ (n * i))) (rest_digits a i)

  pub from_digit_step : (a b i : ℕ) → b < 2 ^ (n * suc e) → i < suc e → from_digit n mul (suc e) (modulus_of n (suc e) low) a b i ≡ bit_xor (scaled n mul (suc e) (a / 2 ^ (n * i) % 2 ^ n) b) (times_y n mul (suc e) (modulus_of n (suc e) low) (from_digit n mul (suc e) (modulus_of n (suc e) low) a b (suc i)))
  unfolding from_digit digits_from times_y scaled
  from_digit_step a b i hb h =
      ap (λ m. packed n (suc e) (digits_from a b m i)) (suc_left i h)
      ∙ ap (packed n (suc e)) (digits_from_open a b (suc e - suc i) i)
      ∙ packed_xor n (suc e) (times mul (a / 2 ^ (n * i) % 2 ^ n) (coefficient n b)) (step mul e (coefficient n (modulus_of n (suc e) low)) (digits_from a b (suc e - suc i) (suc i)))
      (times_below (a / 2 ^ (n * i) % 2 ^ n) (coefficient n b))
      (λ j. xor_lt n _ _ (shift_below (digits_from a b (suc e - suc i) (suc i)) (digits_from_below a b (suc e - suc i) (suc i)) j) (ring.closed (digits_from a b (suc e - suc i) (suc i) e) (coefficient n (modulus_of n (suc e) low) j)))
      ∙ ap (λ f. bit_xor (packed n (suc e) (times mul (a / 2 ^ (n * i) % 2 ^ n) (coefficient n b))) (packed n (suc e) (step mul e (coefficient n (modulus_of n (suc e) low)) f)))
      (sym (fun_ext (coefficient-packed n (suc e) (digits_from a b (suc e - suc i) (suc i)) (digits_from_below a b (suc e - suc i) (suc i)) (digits_from_end a b (suc e - suc i) (suc i) hb))))

  pub from_digit_end : (a b : ℕ) → a < 2 ^ (n * suc e) → b < 2 ^ (n * suc e) → from_digit n mul (suc e) (modulus_of n (suc e) low) a b 0 ≡ product n (suc e) mul (modulus_of n (suc e) low) a b
  unfolding from_digit product
  from_digit_end a b ha hb =
      ap₂ (λ m x. packed n (suc e) (reduced mul e (coefficient n (modulus_of n (suc e) low)) m (coefficient n (a / 2 ^ x)) (coefficient n b))) whole (mul-zero n)
      ∙ ap₂ (λ x y. packed n (suc e) (reduced mul e (coefficient n (modulus_of n (suc e) low)) (suc e) (coefficient n x) (coefficient n y))) (div-one a ∙ sym (mod-eq_of_lt ha)) (sym (mod-eq_of_lt hb))
    where
      whole : suc e - 0 ≡ suc e
      whole = omega arith

pub IsMonic-packed : (n m : ℕ) (mul : ℕ → ℕ → ℕ) (low : ℕ) → IsRing n mul → IsPacked n m low → IsMonic n m (modulus_of n m low)
IsMonic-packed n zero mul low ring ok = absurd (omega (arith, ok.two))
IsMonic-packed n (suc e) mul low ring ok = IsMonic-digits n e mul low ring ok
