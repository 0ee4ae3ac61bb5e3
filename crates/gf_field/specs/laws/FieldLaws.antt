-- A finite ring whose squares and idempotents are those of a field is one.
use Rattle.std.proofs.Common.{◌≡◌, ◌≢◌, ℕ, zero, suc, sym, ◌∙◌, ap, ap₂, ◌<◌, ◌≤◌, ◌^◌, ◌+◌, ◌*◌, ◌-◌, ◌⊎◌, inl, inr, arith, mul-suc}
use Rattle.std.specs.Prelude.{bit_xor}
use Rattle.std.proofs.lemmas.Bool.{cases_eq}
use Rattle.std.specs.Int.Bits.{xor_self, xor_lt}
use Rattle.lists.specs.laws.NumberLaws.{less_and_back}
use Rattle.lists.specs.laws.PowerLaws.{pow_twice}
use Rattle.lists.specs.laws.XorLaws.{xor_same}
use Rattle.gf_field.specs.Ring.{IsRing}
use Rattle.gf_field.specs.Field.{HasNoZeroDivisors}
use Rattle.gf_field.specs.Power.{power}
use Rattle.gf_field.specs.laws.PowerLaws.{power-add, power_below, one_below, power-one}
use Rattle.gf_field.specs.laws.RingLaws.{zero_mul, mul_one}
use Rattle.gf_field.specs.laws.PackingLaws.{self_below}
use Rattle.gf_field.specs.laws.PigeonholeLaws.{Meets, pigeonhole}

-- squaring is one to one, and only 0 and 1 are their own squares
pub record IsFieldBySquares (k : ℕ) (mul : ℕ → ℕ → ℕ) : Type 0 where
  pub squares : (a : ℕ) → a < 2 ^ k → mul a a ≡ 0 → a ≡ 0
  pub idempotents : (a : ℕ) → a < 2 ^ k → mul a a ≡ a → (a ≡ 0) ⊎ (a ≡ 1)

pub record HasInverse (k : ℕ) (mul : ℕ → ℕ → ℕ) (a : ℕ) : Type 0 where
  pub inverse : ℕ
  pub below : inverse < 2 ^ k
  pub is : mul a inverse ≡ 1

module _ (k : ℕ) (mul : ℕ → ℕ → ℕ) (ring : IsRing k mul) where
  -- a power that comes again comes again and again
  power_again : (a i p : ℕ) → power mul a (i + p) ≡ power mul a i → (m : ℕ) → power mul a ((i + m) + p) ≡ power mul a (i + m)
  power_again a i p h m =
      ap (power mul a) (moved i m p) ∙ power-add k mul ring a (i + p) m ∙ ap (λ x. mul x (power mul a m)) h ∙ sym (power-add k mul ring a i m)
    where
      moved : (i m p : ℕ) → (i + m) + p ≡ (i + p) + m
      moved i m p = omega arith

  power_often : (a i p : ℕ) → power mul a (i + p) ≡ power mul a i → (m t : ℕ) → power mul a ((i + m) + p * t) ≡ power mul a (i + m)
  power_often a i p h m zero = ap (power mul a) (plain (i + m) p)
    where
      plain : (n p : ℕ) → n + p * 0 ≡ n
      plain n p = omega arith
  power_often a i p h m (suc t) =
      ap (power mul a) (moved i m p (p * t) (mul-suc p t)) ∙ power_again a i p h (m + p * t) ∙ ap (power mul a) (grouped i m (p * t)) ∙ power_often a i p h m t
    where
      moved : (i m p q : ℕ) {r : ℕ} → r ≡ q + p → (i + m) + r ≡ (i + (m + q)) + p
      moved i m p q e = omega arith

      grouped : (i m q : ℕ) → i + (m + q) ≡ (i + m) + q
      grouped i m q = omega arith

  module _ (field : IsFieldBySquares k mul) where
    -- no power of an element that is not 0 is 0
    square_power : (a : ℕ) → a < 2 ^ k → a ≢ 0 → (j : ℕ) → power mul a (2 ^ j) ≢ 0
    square_power a h ne zero e = ne (sym (power-one k mul ring a h) ∙ e)
    square_power a h ne (suc j) e =
        square_power a h ne j (field.squares (power mul a (2 ^ j)) (power_below k mul ring a (2 ^ j)) (sym (power-add k mul ring a (2 ^ j) (2 ^ j)) ∙ ap (power mul a) (pow_twice j) ∙ e))

    pub power_nonzero : (a : ℕ) → a < 2 ^ k → a ≢ 0 → (m : ℕ) → power mul a m ≢ 0
    power_nonzero a h ne m e =
        square_power a h ne m
        (ap (power mul a) (filled m) ∙ power-add k mul ring a m (2 ^ m - m) ∙ ap (λ x. mul x (power mul a (2 ^ m - m))) e ∙ zero_mul k mul ring (power mul a (2 ^ m - m)))
      where
        filled : (m : ℕ) → 2 ^ m ≡ m + (2 ^ m - m)
        filled m = omega (arith, self_below m)

    -- a power that is its own square is 1, so the one before it is an inverse
    inverse_by : (a : ℕ) → a < 2 ^ k → a ≢ 0 → (q : ℕ) → power mul a (suc q + suc q) ≡ power mul a (suc q) → HasInverse k mul a
    unfolding power
    inverse_by a h ne q e = record {
      inverse = power mul a q;
      below = power_below k mul ring a q;
      is = elim (field.idempotents (power mul a (suc q)) (power_below k mul ring a (suc q)) (sym (power-add k mul ring a (suc q) (suc q)) ∙ e)) [
        | inl z ↦ absurd (power_nonzero a h ne (suc q) z)
        | inr o ↦ o
      ];
    }

    found : (a : ℕ) → a < 2 ^ k → a ≢ 0 → Meets (power mul a) (2 ^ k) → HasInverse k mul a
    found a h ne m = at (m.second - m.first) m.first (positive m.first m.second m.ordered) (ap (power mul a) (back m.first m.second m.ordered) ∙ sym m.same)
      where
        positive : (i j : ℕ) → i < j → 0 < j - i
        positive i j h = omega arith

        back : (i j : ℕ) → i < j → i + (j - i) ≡ j
        back i j h = omega arith

        large : (i p : ℕ) → 0 < p → suc i ≤ p * suc i
        large i p h = le-mul_of_pos_left_of (suc i) p h
          where
            le-mul_of_pos_left_of : (a p : ℕ) → 0 < p → a ≤ p * a
            le-mul_of_pos_left_of a p h = grind arith

        before : (q : ℕ) → 0 < q → suc (q - 1) ≡ q
        before q h = omega arith

        below_of : (i q : ℕ) → suc i ≤ q → i ≤ q
        below_of i q h = omega arith

        over : (i q : ℕ) → suc i ≤ q → 0 < q
        over i q h = omega arith

        at : (p i : ℕ) → 0 < p → power mul a (i + p) ≡ power mul a i → HasInverse k mul a
        at p i hp e = inverse_by a h ne (p * suc i - 1)
            (ap (λ x. power mul a (x + x)) (before (p * suc i) (over i (p * suc i) (large i p hp)))
            ∙ ap (λ x. power mul a (x + p * suc i)) (sym (less_and_back i (p * suc i) (below_of i (p * suc i) (large i p hp))))
            ∙ power_often a i p e (p * suc i - i) (suc i)
            ∙ ap (power mul a) (less_and_back i (p * suc i) (below_of i (p * suc i) (large i p hp)) ∙ sym (before (p * suc i) (over i (p * suc i) (large i p hp)))))

    pub inverse_of : (a : ℕ) → a < 2 ^ k → a ≢ 0 → HasInverse k mul a
    inverse_of a h ne = found a h ne (pigeonhole (2 ^ k) (power mul a) (λ i le. power_below k mul ring a i))

    pub HasNoZeroDivisors-by_squares : HasNoZeroDivisors k mul
    HasNoZeroDivisors-by_squares = record { nonzero = λ a b ha hb na nb e. nb (other a b hb (inverse_of a ha na) e) }
      where
        other : (a b : ℕ) → b < 2 ^ k → HasInverse k mul a → mul a b ≡ 0 → b ≡ 0
        other a b hb v e =
            sym (ring.one b hb) ∙ ap (λ x. mul x b) (sym v.is) ∙ ring.assoc a v.inverse b ∙ ap (mul a) (ring.comm v.inverse b) ∙ sym (ring.assoc a b v.inverse) ∙ ap (λ x. mul x v.inverse) e ∙ zero_mul k mul ring v.inverse

  -- the other way round
  pub IsFieldBySquares-from : HasNoZeroDivisors k mul → IsFieldBySquares k mul
  IsFieldBySquares-from field = record {
    squares = λ a h e. elim (cases_eq a 0) [ inl z ↦ z | inr n ↦ absurd (field.nonzero a a h h n n e) ];
    idempotents = λ a h e. elim (cases_eq a 0) [ inl z ↦ inl z | inr n ↦ inr (one_of a h n e) ];
  }
    where
      one_of : (a : ℕ) → a < 2 ^ k → a ≢ 0 → mul a a ≡ a → a ≡ 1
      one_of a h n e = elim (cases_eq (bit_xor a 1) 0) [
        | inl z ↦ xor_same a 1 z
        | inr m ↦ absurd (field.nonzero a (bit_xor a 1) h (xor_lt k a 1 h (one_below k mul ring)) n m (ring.distrib a a 1 ∙ ap₂ bit_xor e (mul_one k mul ring a h) ∙ xor_self a))
      ]
