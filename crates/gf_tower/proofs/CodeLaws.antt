-- The steps of a tower, in the terms that the code computes.
use Rattle.std.proofs.Common.{◌≡◌, ℕ, zero, suc, sym, ◌∙◌, ap, ap₂, ◌<◌, ◌≤◌, ◌^◌, ◌+◌, ◌*◌, ◌-◌, ◌/◌, ◌%◌, arith, mod-lt, pow_pos, mul-suc, mul-le-mul_left, bit_and, bit_or, add_comm, List, length, get_or, drop, drop-cons, length-drop, get_or-drop}
use Rattle.std.specs.Prelude.{bit_xor}
use Rattle.std.specs.Int.Bits.{or_shifted, xor_comm}
use Rattle.std.proofs.lemmas.Nat.{shl_whole, shr_below}
use Rattle.lists.specs.laws.NumberLaws.{suc_less_one}
use Rattle.lists.specs.laws.PowerLaws.{masked, cut_twice}
use Rattle.gf_field.specs.Ring.{IsRing}
use Rattle.gf_field.specs.Quotient.{product}
use Rattle.gf_field.specs.Element.{AreElements}
use Rattle.gf_tower.specs.Tower.{polynomial_of}
use Rattle.gf_tower.specs.laws.TowerLaws.{polynomial_below}
use Rattle.gf_tower.specs.private.DigitSteps.{IsPacked, modulus_of, scaled, scaled_from, times_y, from_digit}
use Rattle.gf_tower.specs.laws.DigitsLaws.{scaled_below, scaled_start, scaled_step, scaled_end, scaled_element, times_y_is, times_y_element, from_digit_start, from_digit_element, from_digit_step, from_digit_end}

module _ (n m : ℕ) (mul : ℕ → ℕ → ℕ) (low : ℕ) (ring : IsRing n mul) (ok : IsPacked n m low) where
  pub digit_element : (x : ℕ) → bit_and x (18446744073709551615 / 2 ^ (64 - n)) < 2 ^ n
  digit_element x = rw (masked n x ring.small) (mod-lt x (pow_pos n))

  pub start_scaled : (a v : ℕ) → 0 ≡ scaled_from n mul m a v m
  start_scaled a v = sym (at m ok)
    where
      at : (m : ℕ) → IsPacked n m low → scaled_from n mul m a v m ≡ 0
      at zero o = absurd (omega (arith, o.two))
      at (suc e) o = scaled_start n e mul low ring o a v

  pub next_scaled : (a v i r : ℕ) → i < m → r ≡ scaled_from n mul m a v (suc i) → bit_or (r * 2 ^ n % 2 ^ 64) (mul a (bit_and (v / 2 ^ (n * i)) (18446744073709551615 / 2 ^ (64 - n)))) ≡ scaled_from n mul m a v i
  next_scaled a v i r h is = at m ok h is
    where
      at : (m : ℕ) → IsPacked n m low → i < m → r ≡ scaled_from n mul m a v (suc i) → bit_or (r * 2 ^ n % 2 ^ 64) (mul a (bit_and (v / 2 ^ (n * i)) (18446744073709551615 / 2 ^ (64 - n)))) ≡ scaled_from n mul m a v i
      at zero o l e = absurd (omega (arith, o.two))
      at (suc e) o l r_is =
          ap₂ bit_or (shl_whole r (n * (suc e - suc i)) n 64 (rw r_is (scaled_below n e mul low ring o a v (suc i))) fits) (ap (mul a) (masked n (v / 2 ^ (n * i)) ring.small))
          ∙ or_shifted r n (mul a (v / 2 ^ (n * i) % 2 ^ n)) (ring.closed a (v / 2 ^ (n * i) % 2 ^ n))
          ∙ ap (λ x. x * 2 ^ n + mul a (v / 2 ^ (n * i) % 2 ^ n)) r_is
          ∙ sym (scaled_step n e mul low ring o a v i l)
        where
          fits : n * (suc e - suc i) + n ≤ 64
          fits = let g : n * suc (suc e - suc i) ≤ n * suc e = mul-le-mul_left n (omega arith) in omega (arith, mul-suc n (suc e - suc i), o.small)

  pub end_scaled : (a v : ℕ) → scaled_from n mul m a v 0 ≡ scaled n mul m a v
  end_scaled a v = at m ok
    where
      at : (m : ℕ) → IsPacked n m low → scaled_from n mul m a v 0 ≡ scaled n mul m a v
      at zero o = absurd (omega (arith, o.two))
      at (suc e) o = scaled_end n e mul low ring o a v

  pub element_scaled : (a v : ℕ) → scaled n mul m a v < 2 ^ (n * m)
  element_scaled a v = at m ok
    where
      at : (m : ℕ) → IsPacked n m low → scaled n mul m a v < 2 ^ (n * m)
      at zero o = absurd (omega (arith, o.two))
      at (suc e) o = scaled_element n e mul low ring o a v

  pub top_element : (a : ℕ) → a < 2 ^ (n * m) → a / 2 ^ (n * (m - 1)) < 2 ^ n
  top_element a h = at m ok h
    where
      at : (m : ℕ) → IsPacked n m low → a < 2 ^ (n * m) → a / 2 ^ (n * (m - 1)) < 2 ^ n
      at zero o l = absurd (omega (arith, o.two))
      at (suc e) o l = rw (suc_less_one e) (shr_below a n (n * e) (rw (mul-suc n e ∙ add_comm (n * e) n) at l))

  pub is_times_y : (a : ℕ) → a < 2 ^ (n * m) → bit_xor (bit_and (a * 2 ^ n % 2 ^ 64) (18446744073709551615 / 2 ^ (64 - n * m))) (scaled n mul m (a / 2 ^ (n * (m - 1))) low) ≡ times_y n mul m (modulus_of n m low) a
  is_times_y a h = at m ok h
    where
      at : (m : ℕ) → IsPacked n m low → a < 2 ^ (n * m) → bit_xor (bit_and (a * 2 ^ n % 2 ^ 64) (18446744073709551615 / 2 ^ (64 - n * m))) (scaled n mul m (a / 2 ^ (n * (m - 1))) low) ≡ times_y n mul m (modulus_of n m low) a
      at zero o l = absurd (omega (arith, o.two))
      at (suc e) o l =
          ap₂ bit_xor (masked (n * suc e) (a * 2 ^ n % 2 ^ 64) o.small ∙ cut_twice (n * suc e) (a * 2 ^ n) o.small) (ap (λ x. scaled n mul (suc e) (a / 2 ^ (n * x)) low) (suc_less_one e))
          ∙ sym (times_y_is n e mul low ring o a l)

  pub element_times_y : (a : ℕ) → times_y n mul m (modulus_of n m low) a < 2 ^ (n * m)
  element_times_y a = at m ok
    where
      at : (m : ℕ) → IsPacked n m low → times_y n mul m (modulus_of n m low) a < 2 ^ (n * m)
      at zero o = absurd (omega (arith, o.two))
      at (suc e) o = times_y_element n e mul low ring o a

  pub start_sum : (a b : ℕ) → 0 ≡ from_digit n mul m (modulus_of n m low) a b m
  start_sum a b = sym (at m ok)
    where
      at : (m : ℕ) → IsPacked n m low → from_digit n mul m (modulus_of n m low) a b m ≡ 0
      at zero o = absurd (omega (arith, o.two))
      at (suc e) o = from_digit_start n e mul low ring o a b

  pub element_sum : (a b i : ℕ) → from_digit n mul m (modulus_of n m low) a b i < 2 ^ (n * m)
  element_sum a b i = at m ok
    where
      at : (m : ℕ) → IsPacked n m low → from_digit n mul m (modulus_of n m low) a b i < 2 ^ (n * m)
      at zero o = absurd (omega (arith, o.two))
      at (suc e) o = from_digit_element n e mul low ring o a b i

  pub next_sum : (a b i s t r : ℕ) → b < 2 ^ (n * m) → i < m → s ≡ from_digit n mul m (modulus_of n m low) a b (suc i) → t ≡ times_y n mul m (modulus_of n m low) s → r ≡ scaled n mul m (bit_and (a / 2 ^ (n * i)) (18446744073709551615 / 2 ^ (64 - n))) b → bit_xor t r ≡ from_digit n mul m (modulus_of n m low) a b i
  next_sum a b i s t r hb h s_is t_is r_is = at m ok hb h s_is t_is r_is
    where
      at : (m : ℕ) → IsPacked n m low → b < 2 ^ (n * m) → i < m → s ≡ from_digit n mul m (modulus_of n m low) a b (suc i) → t ≡ times_y n mul m (modulus_of n m low) s → r ≡ scaled n mul m (bit_and (a / 2 ^ (n * i)) (18446744073709551615 / 2 ^ (64 - n))) b → bit_xor t r ≡ from_digit n mul m (modulus_of n m low) a b i
      at zero o hb l e f k = absurd (omega (arith, o.two))
      at (suc e) o hb l e1 e2 e3 =
          xor_comm t r
          ∙ ap₂ bit_xor (e3 ∙ ap (λ x. scaled n mul (suc e) x b) (masked n (a / 2 ^ (n * i)) ring.small)) (e2 ∙ ap (times_y n mul (suc e) (modulus_of n (suc e) low)) e1)
          ∙ sym (from_digit_step n e mul low ring o a b i hb l)

  pub end_sum : (a b : ℕ) → a < 2 ^ (n * m) → b < 2 ^ (n * m) → from_digit n mul m (modulus_of n m low) a b 0 ≡ product n m mul (modulus_of n m low) a b
  end_sum a b ha hb = at m ok ha hb
    where
      at : (m : ℕ) → IsPacked n m low → a < 2 ^ (n * m) → b < 2 ^ (n * m) → from_digit n mul m (modulus_of n m low) a b 0 ≡ product n m mul (modulus_of n m low) a b
      at zero o ha hb = absurd (omega (arith, o.two))
      at (suc e) o ha hb = from_digit_end n e mul low ring o a b ha hb

-- one more coefficient, packed
pub packed_step : (n : ℕ) (cs : List ℕ) (i r : ℕ) → n * length cs ≤ 64 → AreElements n cs → suc i ≤ length cs → r ≡ polynomial_of n (drop (suc i) cs) → bit_or (r * 2 ^ n % 2 ^ 64) (get_or cs i 0) ≡ polynomial_of n (drop i cs)
packed_step n cs i r fits all h is =
    ap (λ x. bit_or x (get_or cs i 0)) (shl_whole r (n * length (drop (suc i) cs)) n 64 (rw (is) (polynomial_below n (drop (suc i) cs) below)) room)
    ∙ or_shifted r n (get_or cs i 0) (all i h)
    ∙ ap (λ x. x * 2 ^ n + get_or cs i 0) is
    ∙ sym (ap (polynomial_of n) (drop-cons cs i 0 h))
  where
    below : AreElements n (drop (suc i) cs)
    below j l = rw (get_or-drop) (all (suc i + j) (omega (arith, length-drop (suc i) cs)))

    room : n * length (drop (suc i) cs) + n ≤ 64
    room = let le : n * suc (length (drop (suc i) cs)) ≤ n * length cs = mul-le-mul_left n (omega (arith, length-drop (suc i) cs)) in omega (arith, mul-suc n (length (drop (suc i) cs)))
