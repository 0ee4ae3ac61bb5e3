-- The trace of a field is 0 or 1, and is not 0 everywhere.
use Rattle.std.proofs.Common.{◌≡◌, ℕ, zero, suc, refl, sym, ◌∙◌, ap, ap₂, ◌<◌, ◌≤◌, ◌^◌, ◌+◌, ◌-◌, add-one, ◌⊎◌, inl, inr, arith, pow_pos, pow-suc, List, [], ◌∷◌, ◌++◌, length, replicate, length-append}
use Rattle.std.proofs.Math.ListN.{length-replicate}
use Rattle.std.specs.Prelude.{bit_xor}
use Rattle.std.specs.Int.Bits.{xor_self, xor_lt, xor_zero_l, xor_zero_r, xor_assoc}
use Rattle.lists.specs.laws.NumberLaws.{less_and_back}
use Rattle.lists.specs.laws.PowerLaws.{pow_twice}
use Rattle.lists.specs.laws.XorLaws.{xor_cross, xor_turn}
use Rattle.gf_field.specs.Polynomial.{sum_of_first}
use Rattle.gf_field.specs.Ring.{IsRing}
use Rattle.gf_field.specs.Field.{HasNoZeroDivisors}
use Rattle.gf_field.specs.laws.FieldLaws.{IsFieldBySquares-from}
use Rattle.gf_field.specs.Power.{power}
use Rattle.gf_field.specs.laws.PowerLaws.{power-add, power_below, one_below, power-one}
use Rattle.gf_field.specs.laws.FermatLaws.{power_same}
use Rattle.gf_field.specs.laws.RingLaws.{mul_zero, square-xor, product_cross}
use Rattle.gf_field.specs.laws.PigeonholeLaws.{FoundAt, find}
use Rattle.gf_field.specs.Roots.{value, AllZero, AllElements}
use Rattle.gf_field.specs.laws.RootsLaws.{all_zero, upto, upto_length, elements_are_roots, AllZero-last}
use Rattle.gf_field.specs.Trace.{frobenius, trace, IsTrace}

-- the coefficients of x + x ^ 2 + .. + x ^ (2 ^ (j - 1))
coefficients : ℕ → List ℕ
coefficients zero = []
coefficients (suc j) = coefficients j ++ (replicate (2 ^ j - length (coefficients j)) 0 ++ 1 ∷ [])

coefficients_length : (j : ℕ) → length (coefficients j) ≤ 2 ^ j
unfolding coefficients
coefficients_length zero = omega arith
coefficients_length (suc j) =
    let h : length (coefficients j) ≤ 2 ^ j = coefficients_length j in
    let p : 0 < 2 ^ j = pow_pos j in
    omega (arith, length-append (coefficients j) (replicate (2 ^ j - length (coefficients j)) 0 ++ 1 ∷ []), length-append {A = ℕ} (replicate (2 ^ j - length (coefficients j)) 0) (1 ∷ []), length-replicate {A = ℕ} (2 ^ j - length (coefficients j)) 0, pow-suc 2 j)

AllElements-append : (k : ℕ) (xs ys : List ℕ) → AllElements k xs → AllElements k ys → AllElements k (xs ++ ys)
AllElements-append k [] ys a b = b
AllElements-append k (x ∷ xs) ys a b = (a.0, AllElements-append k xs ys a.1 b)

zeros_elements : (k n : ℕ) → AllElements k (replicate n 0)
zeros_elements k zero = tt
zeros_elements k (suc n) = (pow_pos k, zeros_elements k n)

-- one more square, and one more term of the trace
pub frobenius_next : (mul : ℕ → ℕ → ℕ) (a j s r : ℕ) → s ≡ frobenius mul j a → r ≡ mul s s → r ≡ frobenius mul (j + 1) a
unfolding frobenius
frobenius_next mul a j s r e is = rw add-one (is ∙ ap (λ x. mul x x) e)

pub trace_next : (mul : ℕ → ℕ → ℕ) (a j s t r : ℕ) → s ≡ frobenius mul j a → t ≡ trace mul j a → r ≡ bit_xor t s → r ≡ trace mul (j + 1) a
unfolding trace
trace_next mul a j s t r e h is = rw add-one (is ∙ ap₂ bit_xor h e)

pub trace_is_sum : (mul : ℕ → ℕ → ℕ) (k a : ℕ) → trace mul k a ≡ sum_of_first k (λ j. frobenius mul j a)
unfolding trace
trace_is_sum mul zero a = refl
trace_is_sum mul (suc k) a = ap (λ x. bit_xor x (frobenius mul k a)) (trace_is_sum mul k a)

module _ (k : ℕ) (mul : ℕ → ℕ → ℕ) (ring : IsRing k mul) where
  pub frobenius-xor : (j a b : ℕ) → frobenius mul j (bit_xor a b) ≡ bit_xor (frobenius mul j a) (frobenius mul j b)
  unfolding frobenius
  frobenius-xor zero a b = refl
  frobenius-xor (suc j) a b = ap (λ x. mul x x) (frobenius-xor j a b) ∙ square-xor k mul ring (frobenius mul j a) (frobenius mul j b)

  pub trace-xor : (j a b : ℕ) → trace mul j (bit_xor a b) ≡ bit_xor (trace mul j a) (trace mul j b)
  unfolding trace
  trace-xor zero a b = sym (xor_self 0)
  trace-xor (suc j) a b = ap₂ bit_xor (trace-xor j a b) (frobenius-xor j a b) ∙ xor_cross (trace mul j a) (trace mul j b) (frobenius mul j a) (frobenius mul j b)

  -- squaring keeps products
  pub frobenius-mul : (j a b : ℕ) → frobenius mul j (mul a b) ≡ mul (frobenius mul j a) (frobenius mul j b)
  unfolding frobenius
  frobenius-mul zero a b = refl
  frobenius-mul (suc j) a b = ap (λ x. mul x x) (frobenius-mul j a b) ∙ product_cross k mul ring (frobenius mul j a) (frobenius mul j b)

  pub frobenius-power : (j a : ℕ) → a < 2 ^ k → frobenius mul j a ≡ power mul a (2 ^ j)
  unfolding frobenius
  frobenius-power zero a h = sym (power-one k mul ring a h)
  frobenius-power (suc j) a h = ap (λ x. mul x x) (frobenius-power j a h) ∙ sym (power-add k mul ring a (2 ^ j) (2 ^ j)) ∙ ap (power mul a) (pow_twice j)

  frobenius_below : (j a : ℕ) → a < 2 ^ k → frobenius mul j a < 2 ^ k
  unfolding frobenius
  frobenius_below zero a h = h
  frobenius_below (suc j) a h = ring.closed (frobenius mul j a) (frobenius mul j a)

  pub trace_below : (j a : ℕ) → a < 2 ^ k → trace mul j a < 2 ^ k
  unfolding trace
  trace_below zero a h = pow_pos k
  trace_below (suc j) a h = xor_lt k _ _ (trace_below j a h) (frobenius_below j a h)

  square-trace : (j a : ℕ) → mul (trace mul j a) (trace mul j a) ≡ bit_xor (bit_xor (trace mul j a) a) (frobenius mul j a)
  unfolding trace frobenius
  square-trace zero a = mul_zero k mul ring 0 ∙ sym (ap (λ x. bit_xor x a) (xor_zero_l a) ∙ xor_self a)
  square-trace (suc j) a =
      square-xor k mul ring (trace mul j a) (frobenius mul j a)
      ∙ ap (λ x. bit_xor x (mul (frobenius mul j a) (frobenius mul j a))) (square-trace j a ∙ xor_turn (trace mul j a) a (frobenius mul j a))

  value-append : (xs ys : List ℕ) (x : ℕ) → value mul ys x < 2 ^ k → value mul (xs ++ ys) x ≡ bit_xor (value mul xs x) (mul (power mul x (length xs)) (value mul ys x))
  unfolding power
  value-append [] ys x h = sym (xor_zero_l (mul 1 (value mul ys x)) ∙ ring.one (value mul ys x) h)
  value-append (c ∷ cs) ys x h =
      ap (λ y. bit_xor c (mul x y)) (value-append cs ys x h)
      ∙ ap (bit_xor c) (ring.distrib x (value mul cs x) (mul (power mul x (length cs)) (value mul ys x)) ∙ ap (bit_xor (mul x (value mul cs x))) (sym (ring.assoc x (power mul x (length cs)) (value mul ys x))))
      ∙ sym (xor_assoc c (mul x (value mul cs x)) (mul (mul x (power mul x (length cs))) (value mul ys x)))

  value-gap : (n x : ℕ) → value mul (replicate n 0 ++ 1 ∷ []) x ≡ power mul x n
  unfolding power
  value-gap zero x = ap (bit_xor 1) (mul_zero k mul ring x) ∙ xor_zero_r 1
  value-gap (suc n) x = ap (λ y. bit_xor 0 (mul x y)) (value-gap n x) ∙ xor_zero_l (mul x (power mul x n))

  value-coefficients : (j x : ℕ) → x < 2 ^ k → value mul (coefficients j) x ≡ trace mul j x
  unfolding coefficients trace
  value-coefficients zero x h = refl
  value-coefficients (suc j) x h =
      value-append (coefficients j) (replicate (2 ^ j - length (coefficients j)) 0 ++ 1 ∷ []) x (rw (value-gap (2 ^ j - length (coefficients j)) x) (power_below k mul ring x (2 ^ j - length (coefficients j))))
      ∙ ap₂ bit_xor (value-coefficients j x h)
      (ap (mul (power mul x (length (coefficients j)))) (value-gap (2 ^ j - length (coefficients j)) x)
      ∙ sym (power-add k mul ring x (length (coefficients j)) (2 ^ j - length (coefficients j)))
      ∙ ap (power mul x) (less_and_back (length (coefficients j)) (2 ^ j) (coefficients_length j))
      ∙ sym (frobenius-power j x h))

  coefficients_elements : (j : ℕ) → AllElements k (coefficients j)
  unfolding coefficients
  coefficients_elements zero = tt
  coefficients_elements (suc j) = AllElements-append k (coefficients j) (replicate (2 ^ j - length (coefficients j)) 0 ++ 1 ∷ []) (coefficients_elements j)
      (AllElements-append k (replicate (2 ^ j - length (coefficients j)) 0) (1 ∷ []) (zeros_elements k (2 ^ j - length (coefficients j))) (one_below k mul ring, tt))

  module _ (field : HasNoZeroDivisors k mul) where
    pub trace_bit : (a : ℕ) → a < 2 ^ k → (trace mul k a ≡ 0) ⊎ (trace mul k a ≡ 1)
    trace_bit a h = (IsFieldBySquares-from k mul ring field).idempotents (trace mul k a) (trace_below k a h)
        (square-trace k a ∙ ap (bit_xor (bit_xor (trace mul k a) a)) (frobenius-power k a h ∙ power_same k mul ring field a h) ∙ xor_assoc (trace mul k a) a a ∙ ap (bit_xor (trace mul k a)) (xor_self a) ∙ xor_zero_r (trace mul k a))

    not_all : (j : ℕ) → 0 < j → AllZero (coefficients j) → ⊥
    unfolding coefficients
    not_all zero h z = omega arith
    not_all (suc j) h z = differ (AllZero-last (replicate (2 ^ j - length (coefficients j)) 0) (1 ∷ []) (AllZero-last (coefficients j) (replicate (2 ^ j - length (coefficients j)) 0 ++ 1 ∷ []) z)).0
      where
        differ : ◌≡◌ {A = ℕ} 1 0 → ⊥
        differ e = omega arith

    -- some element has the trace 1
    trace_one : FoundAt (trace mul k) (2 ^ k) 1
    trace_one = elim (find (trace mul k) (2 ^ k) 1) [
      | inl w ↦ w
      | inr none ↦ absurd (not_all k ring.some (all_zero k mul ring field (upto (2 ^ k)) (coefficients k) (rw (upto_length (2 ^ k)) (coefficients_length k)) (coefficients_elements k)
          (elements_are_roots k mul ring (coefficients k) (λ x h. value-coefficients k x h ∙ elim (trace_bit x h) [ inl z ↦ z | inr o ↦ absurd (none x h o) ]) (2 ^ k) (omega arith))))
    ]

    pub IsTrace-from_field : IsTrace k mul
    IsTrace-from_field = record {
      bit = trace_bit;
      additive = trace-xor k;
      witness = trace_one.at;
      element = trace_one.below;
      not_zero = trace_one.is;
    }

    pub trace_at_most_one : (a t : ℕ) → a < 2 ^ k → t ≡ trace mul k a → t ≤ 1
    trace_at_most_one a t h is = elim (trace_bit a h) [ inl z ↦ rw (is, z) (omega arith) | inr o ↦ rw (is, o) (omega arith) ]
