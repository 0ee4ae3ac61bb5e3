-- Montgomery's product: each coefficient of the first factor adds the second one, and a division by x follows.
use Rattle.std.proofs.Common.{◌≡◌, ◌≢◌, ℕ, zero, suc, refl, sym, ◌∙◌, ap, ap₂, ◌<◌, ◌≤◌, ◌^◌, ◌*◌, ◌/◌, ◌%◌, inl, inr, arith, pow_pos, pow-suc}
use Rattle.std.specs.Prelude.{bit_xor}
use Rattle.std.specs.Int.{bit_at}
use Rattle.std.specs.Int.Bits.{xor_self, xor_lt}
use Rattle.std.proofs.lemmas.Nat.{pow_below}
use Rattle.std.proofs.lemmas.Nat.Bits.{bit_at-suc, bit_at-lt}
use native.Mathlib.Nat.{mod-eq_of_lt}
use Rattle.std.proofs.Math.Nat.{mod-one}
use Rattle.lists.specs.laws.NumberLaws.{bit_cases, half_of_even}
use Rattle.gf_field.specs.Ring.{IsRing}
use Rattle.gf_field.specs.Field.{HasNoZeroDivisors}
use Rattle.gf_field.specs.Bit.{bit_mul}
use Rattle.gf_field.specs.Modulus.{IsModulus}
use Rattle.gf_field.specs.Power.{power}
use Rattle.gf_field.specs.Quotient.{product}
use Rattle.gf_field.specs.laws.RingLaws.{mul_zero, zero_mul, distrib_left}
use Rattle.gf_field.specs.laws.FieldLaws.{HasInverse, IsFieldBySquares-from, inverse_of, power_nonzero}
use Rattle.gf_field.specs.laws.PowerLaws.{power_below}
use Rattle.gf_field.specs.laws.ModulusLaws.{modulus_below, modulus_above, IsRing-from_modulus}
use Rattle.gf_field.proofs.ShiftAndAddLaws.{times_x_reduced}
use Rattle.make_laws.specs.Indeterminate.{x_of}
use Rattle.make_laws.specs.InversePower.{HasOneInversePower}
use Rattle.make_laws.proofs.Halving.{halved, running_sum}
use Rattle.make_laws.proofs.BitLemmas.{times_below}
use Rattle.make_laws.proofs.SumLemmas.{one_more_bit, times_mul, mul_times}
use Rattle.make_laws.proofs.IndeterminateLemmas.{x_times, x_below, power_x, line_modulus}
use Rattle.make_laws.proofs.HalvingLemmas.{halved_below, x_halved, top_bit}

-- the last coefficient of the modulus of a field is 1, but for that of x
pub last_coefficient : (k g : ℕ) → IsModulus k g → HasNoZeroDivisors k (product 1 k bit_mul g) → g ≢ 2 → g % 2 ≡ 1
last_coefficient zero g ok field other = absurd (omega (arith, ok.some))
last_coefficient (suc zero) g ok field other = elim (line_modulus g ok) [
  | inl two ↦ absurd (other two)
  | inr three ↦ rw three refl
]
last_coefficient (suc (suc d)) g ok field other = elim (bit_cases (g % 2) (omega arith)) [
  | inl even ↦ absurd (field.nonzero 2 (g / 2) (pow_below 1 (suc (suc d)) (omega arith)) below (λ z. differ z) (λ z. large z) (zero_product even))
  | inr one ↦ one
]
  where
    below : g / 2 < 2 ^ suc (suc d)
    below = let less : g < 2 ^ suc (suc (suc d)) = modulus_below (suc (suc d)) g ok in omega (arith, less, pow-suc 2 (suc (suc d)))

    differ : ◌≡◌ {A = ℕ} 2 0 → ⊥
    differ e = omega arith

    large : g / 2 ≡ 0 → ⊥
    large z = let le : 2 ^ suc (suc d) ≤ g = modulus_above (suc (suc d)) g ok in omega (arith, le, z, pow-suc 2 (suc d), pow_pos (suc d))

    zero_product : g % 2 ≡ 0 → product 1 (suc (suc d)) bit_mul g 2 (g / 2) ≡ 0
    zero_product even =
        x_times (suc (suc d)) g (g / 2) ok below
        ∙ times_x_reduced (suc d) g ok (g / 2) below (sym (bit_at-suc g (suc d)) ∙ top_bit (suc (suc d)) g ok)
        ∙ ap (λ v. bit_xor v g) (half_of_even g even)
        ∙ xor_self g

module _ (k g : ℕ) (ok : IsModulus k g) (odd : g % 2 ≡ 1) where
  abbrev mul : ℕ → ℕ → ℕ
  mul = product 1 k bit_mul g

  abbrev x_to : ℕ → ℕ
  x_to i = power (product 1 k bit_mul g) (x_of k g) i

  ring : IsRing k (product 1 k bit_mul g)
  ring = IsRing-from_modulus k g ok

  pub running_below : (a b i : ℕ) → b < 2 ^ k → running_sum g a b i < 2 ^ k
  unfolding running_sum
  running_below a b zero h = pow_pos k
  running_below a b (suc i) h = halved_below k g (bit_xor (running_sum g a b i) (bit_at a i * b)) ok (xor_lt k _ _ (running_below a b i h) (times_below k (bit_at a i) b (bit_at-lt a i) h))

  x_next : (i u : ℕ) → u < 2 ^ k → mul (x_to (suc i)) (halved g u) ≡ mul (x_to i) u
  unfolding power
  x_next i u h =
      ap (λ v. mul v (halved g u)) (ring.comm (x_of k g) (x_to i))
      ∙ ring.assoc (x_to i) (x_of k g) (halved g u)
      ∙ ap (mul (x_to i)) (x_halved k g u ok odd h)

  -- x to the i times the sum after i coefficients is the product by these coefficients
  pub running_product : (a b i : ℕ) → b < 2 ^ k → i ≤ k → mul (x_to i) (running_sum g a b i) ≡ mul (a % 2 ^ i) b
  unfolding running_sum
  running_product a b zero h le = mul_zero k mul ring (x_to 0) ∙ sym (ap (λ v. mul v b) (mod-one a) ∙ zero_mul k mul ring b)
  running_product a b (suc i) h le =
      x_next i (bit_xor (running_sum g a b i) (bit_at a i * b)) (xor_lt k _ _ (running_below a b i h) (times_below k (bit_at a i) b (bit_at-lt a i) h))
      ∙ ring.distrib (x_to i) (running_sum g a b i) (bit_at a i * b)
      ∙ ap₂ bit_xor (running_product a b i h (omega arith))
      (mul_times k mul ring (bit_at a i) b (x_to i) (bit_at-lt a i)
      ∙ sym (times_mul k mul ring (bit_at a i) (x_to i) b (bit_at-lt a i))
      ∙ ap (λ v. mul (bit_at a i * v) b) (power_x k g i ok le))
      ∙ sym (distrib_left k mul ring (a % 2 ^ i) (bit_at a i * 2 ^ i) b)
      ∙ ap (λ v. mul v b) (sym (one_more_bit a i))

  -- the last sum
  pub montgomery : (a b r : ℕ) → a < 2 ^ k → b < 2 ^ k → mul r (x_to k) ≡ 1 → running_sum g a b k ≡ mul (mul a b) r
  montgomery a b r ha hb inverse =
      sym (ring.one (running_sum g a b k) (running_below a b k hb))
      ∙ ap (λ v. mul v (running_sum g a b k)) (sym inverse)
      ∙ ring.assoc r (x_to k) (running_sum g a b k)
      ∙ ap (mul r) (running_product a b k hb (omega arith) ∙ ap (λ v. mul v b) (mod-eq_of_lt ha))
      ∙ ring.comm r (mul a b)

  x_nonzero : x_of k g ≢ 0
  x_nonzero = at k g ok odd
    where
      at : (k g : ℕ) → IsModulus k g → g % 2 ≡ 1 → x_of k g ≢ 0
      at zero g ok odd z = omega (arith, ok.some)
      at (suc zero) g ok odd z = omega (arith, odd, z)
      at (suc (suc d)) g ok odd z = omega (arith, z)

  -- powers of x have inverses
  pub x_inverse : HasNoZeroDivisors k (product 1 k bit_mul g) → (i : ℕ) → HasInverse k (product 1 k bit_mul g) (x_to i)
  x_inverse field i =
      let squares = IsFieldBySquares-from k mul ring field in
      inverse_of k mul ring squares (x_to i) (power_below k mul ring (x_of k g) i) (power_nonzero k mul ring squares (x_of k g) (x_below k g ok) x_nonzero i)

  -- and only one each
  pub one_inverse : (a r s : ℕ) → r < 2 ^ k → s < 2 ^ k → mul r a ≡ 1 → mul s a ≡ 1 → r ≡ s
  one_inverse a r s hr hs er es =
      sym (ring.one r hr) ∙ ap (λ v. mul v r) (sym es) ∙ ring.assoc s a r ∙ ap (mul s) (ring.comm a r ∙ er) ∙ ring.comm s 1 ∙ ring.one s hs

  pub one_inverse_power : HasNoZeroDivisors k (product 1 k bit_mul g) → HasOneInversePower k g
  one_inverse_power field =
      let v = x_inverse field k in
      let is : mul v.inverse (x_to k) ≡ 1 = ring.comm v.inverse (x_to k) ∙ v.is in
      record {
        inverse = v.inverse;
        is_one = record { below = v.below; is = is };
        only = λ r inverse. one_inverse (x_to k) r v.inverse inverse.below v.below inverse.is is;
      }
