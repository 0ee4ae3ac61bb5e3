-- Multiplication digit by digit, the highest digit first.
use Rattle.std.proofs.Common.{◌≡◌, ℕ, zero, suc, ◌<◌, ◌≤◌, ◌^◌, ◌+◌, ◌-◌, ◌*◌, sym, refl, ◌∙◌, ap, ap₂, arith, mul-suc, mul-le-mul_left, Bool, false}
use Rattle.std.specs.Prelude.{bit_xor, ◌==◌, ◌&&◌}
use Rattle.std.specs.Int.{bit_at}
use Rattle.std.specs.Int.Bits.{xor_comm, xor_lt}
use Rattle.std.proofs.Math.Nat.{mul-zero}
use Rattle.lists.specs.laws.XorLaws.{bit_at-sum}
use Rattle.gf_field.proofs.SharedLemmas.{same_sum}
use Rattle.gf_field.specs.Ring.{IsRing}
use Rattle.gf_field.specs.Power.{power}
use Rattle.gf_field.specs.Polynomial.{sum_of_first}
use Rattle.gf_field.specs.laws.RingLaws.{distrib_left, zero_mul}
use Rattle.gf_field.specs.laws.PowerLaws.{power-add}
use Rattle.irreducible.specs.laws.AdditiveLaws.{IsAdditive}
use Rattle.make_laws.specs.Chosen.{chosen, sum_of_chosen}
use Rattle.make_laws.specs.DigitRegisters.{HasUnitPowers, HoldDigitProducts, HoldDigitSums, power_element}
use Rattle.make_laws.proofs.BitNumber.{number_of_bits}
use Rattle.make_laws.proofs.RingSumLemmas.{sum_split}
use Rattle.make_laws.proofs.ChosenLemmas.{chosen_one, chosen_same, chosen_sum_additive, product_of_sums, number_again, number_same, number_powers}

module _ (k : ℕ) (mul : ℕ → ℕ → ℕ) (ring : IsRing k mul) (x : ℕ) (units : (i : ℕ) → i < k → power mul x i ≡ 2 ^ i) where
  -- the element of these bits in the basis of the powers of x
  pub poly_sum : (ℕ → Bool) → ℕ
  poly_sum a = sum_of_chosen k a (power mul x)

  -- it is their number
  pub number_is_sum : (a : ℕ → Bool) → number_of_bits k a ≡ poly_sum a
  unfolding poly_sum
  number_is_sum a = number_powers k a ∙ same_sum k (λ i. chosen (a i) (2 ^ i)) (λ i. chosen (a i) (power mul x i)) (λ i less. ap (chosen (a i)) (sym (units i less)))

  -- the element of digit t of so many bits
  pub digit_sum : ℕ → (ℕ → Bool) → ℕ
  digit_sum width d = sum_of_chosen width d (power mul x)

  -- the element after one cycle: x^D times the one before, plus the digit times b
  pub after_cycle : ℕ → (ℕ → Bool) → (ℕ → Bool) → (ℕ → Bool) → ℕ
  after_cycle width z d b = bit_xor (mul (power mul x width) (poly_sum z)) (mul (digit_sum width d) (poly_sum b))

  IsAdditive-bit : (l : ℕ) → IsAdditive (λ v. bit_at v l)
  IsAdditive-bit l = record { sum = λ u v. bit_at-sum u v l }

  IsAdditive-bit_times : (y l : ℕ) → IsAdditive (λ v. bit_at (mul y v) l)
  IsAdditive-bit_times y l = record { sum = λ u v. ap (λ w. bit_at w l) (ring.distrib y u v) ∙ bit_at-sum (mul y u) (mul y v) l }

  bit_after : (width : ℕ) (z d b : ℕ → Bool) (l : ℕ) → bit_at (after_cycle width z d b) l
      ≡ bit_xor (sum_of_first k (λ i. chosen (z i) (bit_at (power mul x (i + width)) l))) (sum_of_first width (λ e. sum_of_first k (λ j. chosen (d e && b j) (bit_at (power mul x (e + j)) l))))
  unfolding after_cycle poly_sum digit_sum
  bit_after width z d b l =
      bit_at-sum (mul (power mul x width) (sum_of_chosen k z (power mul x))) (mul (sum_of_chosen width d (power mul x)) (sum_of_chosen k b (power mul x))) l
      ∙ ap₂ bit_xor
      (chosen_sum_additive (λ v. bit_at (mul (power mul x width) v) l) (IsAdditive-bit_times (power mul x width) l) k z (power mul x)
      ∙ same_sum k (λ i. chosen (z i) (bit_at (mul (power mul x width) (power mul x i)) l)) (λ i. chosen (z i) (bit_at (power mul x (i + width)) l))
      (λ i less. ap (λ v. chosen (z i) (bit_at v l)) (ring.comm (power mul x width) (power mul x i) ∙ sym (power-add k mul ring x i width))))
      (product_of_sums k mul ring (λ v. bit_at v l) (IsAdditive-bit l) width k d b (power mul x) (power mul x)
      ∙ same_sum width (λ e. sum_of_first k (λ j. chosen (d e && b j) (bit_at (mul (power mul x e) (power mul x j)) l))) (λ e. sum_of_first k (λ j. chosen (d e && b j) (bit_at (power mul x (e + j)) l)))
      (λ e less. same_sum k (λ j. chosen (d e && b j) (bit_at (mul (power mul x e) (power mul x j)) l)) (λ j. chosen (d e && b j) (bit_at (power mul x (e + j)) l))
      (λ j less'. ap (λ v. chosen (d e && b j) (bit_at v l)) (sym (power-add k mul ring x e j)))))

  -- registers whose bits are these sums have that element
  pub cycle_sum : (width : ℕ) (z d b next : ℕ → Bool)
      → ((l : ℕ) → l < k → chosen (next l) 1 ≡ bit_xor (sum_of_first k (λ i. chosen (z i) (bit_at (power mul x (i + width)) l))) (sum_of_first width (λ e. sum_of_first k (λ j. chosen (d e && b j) (bit_at (power mul x (e + j)) l)))))
      → poly_sum next ≡ after_cycle width z d b
  unfolding after_cycle
  cycle_sum width z d b next are =
      sym (number_is_sum next)
      ∙ number_same k next (λ l. bit_at (after_cycle width z d b) l == 1) (λ l less. sym (chosen_one (next l)) ∙ ap (λ n. n == 1) (are l less ∙ sym (bit_after width z d b l)))
      ∙ number_again k (after_cycle width z d b) (xor_lt k (mul (power mul x width) (poly_sum z)) (mul (digit_sum width d) (poly_sum b)) (ring.closed (power mul x width) (poly_sum z)) (ring.closed (digit_sum width d) (poly_sum b)))

  module _ (width count : ℕ) (whole : k ≡ width * count) (a b : ℕ → Bool) where
    -- the element of the t highest digits of a
    pub highest : ℕ → ℕ
    highest t = sum_of_chosen (width * t) (λ i. a (k - width * t + i)) (power mul x)

    fits : (t : ℕ) → t < count → width * suc t ≤ k
    fits t less = let h : width * suc t ≤ width * count = mul-le-mul_left width less in omega (arith, whole)

    -- one more digit
    pub highest_next : (t : ℕ) → t < count → highest (suc t) ≡ bit_xor (mul (power mul x width) (highest t)) (digit_sum width (λ e. a (k - width * suc t + e)))
    unfolding highest digit_sum
    highest_next t less =
        ap (λ n. sum_of_chosen n (λ i. a (k - width * suc t + i)) (power mul x)) (mul-suc width t ∙ turned (width * t) width)
        ∙ sum_split width (width * t) (λ i. chosen (a (k - width * suc t + i)) (power mul x i))
        ∙ xor_comm (sum_of_chosen width (λ e. a (k - width * suc t + e)) (power mul x)) (sum_of_first (width * t) (λ i. chosen (a (k - width * suc t + (width + i))) (power mul x (width + i))))
        ∙ ap (λ v. bit_xor v (sum_of_chosen width (λ e. a (k - width * suc t + e)) (power mul x)))
        (same_sum (width * t) (λ i. chosen (a (k - width * suc t + (width + i))) (power mul x (width + i))) (λ i. chosen (a (k - width * t + i)) (mul (power mul x width) (power mul x i)))
        (λ i within. ap₂ (λ p v. chosen (a p) v) (place i) (power-add k mul ring x width i))
        ∙ sym (chosen_sum_additive (mul (power mul x width)) (record { sum = ring.distrib (power mul x width) }) (width * t) (λ i. a (k - width * t + i)) (power mul x)))
      where
        turned : (p q : ℕ) → p + q ≡ q + p
        turned p q = omega arith

        moved : (n p q i : ℕ) → q ≡ p + width → q ≤ n → n - q + (width + i) ≡ n - p + i
        moved n p q i e h = omega arith

        place : (i : ℕ) → k - width * suc t + (width + i) ≡ k - width * t + i
        place i = moved k (width * t) (width * suc t) i (mul-suc width t) (fits t less)

    highest_none : highest 0 ≡ 0
    unfolding highest
    highest_none = ap (λ n. sum_of_chosen n (λ i. a (k - width * 0 + i)) (power mul x)) (mul-zero width)

    highest_all : highest count ≡ poly_sum a
    unfolding highest poly_sum
    highest_all =
        ap (λ n. sum_of_chosen n (λ i. a (k - n + i)) (power mul x)) (sym whole)
        ∙ chosen_same k (λ i. a (k - k + i)) a (power mul x) (λ i less. ap a (from_none k i))
      where
        from_none : (n i : ℕ) → n - n + i ≡ i
        from_none n i = omega arith

    -- ---- the registers, cycle by cycle: d is the digit of a that is fed, the highest first
    module _ (z : ℕ → ℕ → Bool) (d : ℕ → ℕ → Bool)
        (starts : (l : ℕ) → l < k → z 0 l ≡ false)
        (fed : (t e : ℕ) → t < count → e < width → d t e ≡ a (k - width * suc t + e))
        (steps : (t l : ℕ) → t < count → l < k → chosen (z (suc t) l) 1 ≡ bit_xor (sum_of_first k (λ i. chosen (z t i) (bit_at (power mul x (i + width)) l))) (sum_of_first width (λ e. sum_of_first k (λ j. chosen (d t e && b j) (bit_at (power mul x (e + j)) l)))))
      where
        nothing : (n : ℕ) (f : ℕ → ℕ) (c : ℕ → Bool) → ((i : ℕ) → i < n → c i ≡ false) → sum_of_chosen n c f ≡ 0
        nothing zero f c none = refl
        nothing (suc n) f c none = ap₂ bit_xor (nothing n f c (λ i less. none i (omega arith))) (ap (λ q. chosen q (f n)) (none n (omega arith)))

        -- after t cycles the registers hold the t highest digits of a, times b
        pub after : (t : ℕ) → t ≤ count → poly_sum (z t) ≡ mul (highest t) (poly_sum b)
        unfolding poly_sum after_cycle digit_sum
        after zero h = nothing k (power mul x) (z 0) starts ∙ sym (ap (λ v. mul v (poly_sum b)) highest_none ∙ zero_mul k mul ring (poly_sum b))
        after (suc t) h =
            cycle_sum width (z t) (d t) b (z (suc t)) (λ l less. steps t l (omega arith) less)
            ∙ ap₂ bit_xor (ap (mul (power mul x width)) (after t (omega arith)) ∙ sym (ring.assoc (power mul x width) (highest t) (poly_sum b)))
            (ap (λ v. mul v (poly_sum b)) (chosen_same width (d t) (λ e. a (k - width * suc t + e)) (power mul x) (λ e less. fed t e (omega arith) less)))
            ∙ sym (distrib_left k mul ring (mul (power mul x width) (highest t)) (digit_sum width (λ e. a (k - width * suc t + e))) (poly_sum b))
            ∙ ap (λ v. mul v (poly_sum b)) (sym (highest_next t (omega arith)))

        pub digit_product : poly_sum (z count) ≡ mul (poly_sum a) (poly_sum b)
        digit_product = after count (omega arith) ∙ ap (λ v. mul v (poly_sum b)) highest_all

pub digit_sums : (k : ℕ) (mul : ℕ → ℕ → ℕ) → IsRing k mul → HoldDigitSums k mul
unfolding poly_sum highest
digit_sums k mul ring x width count t a b z d units whole early registers =
    after k mul ring x units width count whole a b z d registers.starts registers.fed registers.steps t early

pub digit_products : (k : ℕ) (mul : ℕ → ℕ → ℕ) → IsRing k mul → HoldDigitProducts k mul
unfolding poly_sum
digit_products k mul ring x width count a b z d units whole registers =
    digit_product k mul ring x units width count whole a b z d registers.starts registers.fed registers.steps

-- the number of bits as an element
pub number_is_power : (k : ℕ) (mul : ℕ → ℕ → ℕ) → IsRing k mul → (x : ℕ) → HasUnitPowers k mul x → (a : ℕ → Bool) → number_of_bits k a ≡ power_element mul x k a
unfolding poly_sum
number_is_power k mul ring x units a = number_is_sum k mul ring x units a
