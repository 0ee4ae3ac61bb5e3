-- A polynomial has no more roots than its degree.
use Rattle.std.proofs.Common.{◌≡◌, ◌≢◌, ℕ, suc, refl, sym, ◌∙◌, ap, ap₂, ◌<◌, ◌≤◌, ◌^◌, arith, pow_pos, List, [], ◌∷◌, ◌++◌, length, length-append, inl, inr, zero}
use Rattle.std.specs.Prelude.{bit_xor}
use Rattle.std.specs.Int.Bits.{xor_self, xor_zero_r, xor_lt}
use Rattle.std.proofs.lemmas.Bool.{cases_eq, cases_lt}
use Rattle.gf_field.specs.Ring.{IsRing}
use Rattle.gf_field.specs.Field.{HasNoZeroDivisors}
use Rattle.gf_field.specs.laws.RingLaws.{mul_zero, distrib_left, mul_left_comm}
use Rattle.std.specs.List.{AllByRecursion}
use Rattle.lists.specs.laws.XorLaws.{xor_same, xor_drop_outer, xor_drop_pair}
use Rattle.gf_field.specs.Roots.{value, AllZero, AllElements, AreRoots, HasRootsUpToDegree, HasFewRoots}

-- the quotient of c ∷ cs by x + r, whatever c is
divided : (ℕ → ℕ → ℕ) → ℕ → List ℕ → List ℕ
divided mul r [] = []
divided mul r (c ∷ cs) = value mul (c ∷ cs) r ∷ divided mul r cs

-- all numbers below n
pub upto : ℕ → List ℕ
upto zero = []
upto (suc n) = n ∷ upto n

pub upto_length : (n : ℕ) → length (upto n) ≡ n
unfolding upto
upto_length zero = refl
upto_length (suc n) = ap suc (upto_length n)

upto_apart : (x n : ℕ) → n ≤ x → AllByRecursion (λ y. x ≢ y) (upto n)
unfolding upto
upto_apart x zero h = tt
upto_apart x (suc n) h = (λ e. absurd (omega arith), upto_apart x n (omega arith))

pub AllZero-last : (xs ys : List ℕ) → AllZero (xs ++ ys) → AllZero ys
AllZero-last [] ys h = h
AllZero-last (x ∷ xs) ys h = AllZero-last xs ys h.1

module _ (k : ℕ) (mul : ℕ → ℕ → ℕ) (ring : IsRing k mul) where
  split : (x r a b : ℕ) → bit_xor (mul x a) (mul r b) ≡ bit_xor (mul (bit_xor x r) b) (mul x (bit_xor a b))
  split x r a b = sym (ap₂ bit_xor (distrib_left k mul ring x r b) (ring.distrib x a b) ∙ xor_drop_outer (mul x b) (mul r b) (mul x a))

  -- p (x) + p (r) is (x + r) q (x)
  divided_lem : (r c : ℕ) (cs : List ℕ) (x : ℕ) → bit_xor (value mul (c ∷ cs) x) (value mul (c ∷ cs) r) ≡ mul (bit_xor x r) (value mul (divided mul r cs) x)
  unfolding divided
  divided_lem r c [] x = xor_drop_pair c (mul x 0) (mul r 0) ∙ ap₂ bit_xor (mul_zero k mul ring x) (mul_zero k mul ring r) ∙ xor_self 0 ∙ sym (mul_zero k mul ring (bit_xor x r))
  divided_lem r c (d ∷ ds) x =
      xor_drop_pair c (mul x (value mul (d ∷ ds) x)) (mul r (value mul (d ∷ ds) r))
      ∙ split x r (value mul (d ∷ ds) x) (value mul (d ∷ ds) r)
      ∙ ap (bit_xor (mul (bit_xor x r) (value mul (d ∷ ds) r))) (ap (mul x) (divided_lem r d ds x) ∙ mul_left_comm k mul ring x (bit_xor x r) (value mul (divided mul r ds) x))
      ∙ sym (ring.distrib (bit_xor x r) (value mul (d ∷ ds) r) (mul x (value mul (divided mul r ds) x)))

  -- where the quotient is 0 and r is a root, all is 0
  divided_zero : (r : ℕ) (cs : List ℕ) → AllZero (divided mul r cs) → AllZero cs
  unfolding divided
  divided_zero r [] z = tt
  divided_zero r (d ∷ ds) z = (first r d ds (divided_zero r ds z.1) z.0, divided_zero r ds z.1)
    where
      value_zero : (cs : List ℕ) (x : ℕ) → AllZero cs → value mul cs x ≡ 0
      value_zero [] x h = refl
      value_zero (c ∷ cs) x h = ap₂ bit_xor h.0 (ap (mul x) (value_zero cs x h.1) ∙ mul_zero k mul ring x) ∙ xor_self 0

      first : (r d : ℕ) (ds : List ℕ) → AllZero ds → value mul (d ∷ ds) r ≡ 0 → d ≡ 0
      first r d ds h root = sym (xor_zero_r d) ∙ ap (bit_xor d) (sym (ap (mul r) (value_zero ds r h) ∙ mul_zero k mul ring r)) ∙ root

  divided_length : (r : ℕ) (cs : List ℕ) → length (divided mul r cs) ≡ length cs
  unfolding divided
  divided_length r [] = refl
  divided_length r (c ∷ cs) = ap suc (divided_length r cs)

  value_below : (cs : List ℕ) (x : ℕ) → AllElements k cs → value mul cs x < 2 ^ k
  value_below [] x h = pow_pos k
  value_below (c ∷ cs) x h = xor_lt k _ _ h.0 (ring.closed x (value mul cs x))

  divided_elements : (r : ℕ) (cs : List ℕ) → AllElements k cs → AllElements k (divided mul r cs)
  unfolding divided
  divided_elements r [] h = tt
  divided_elements r (c ∷ cs) h = (value_below (c ∷ cs) r h, divided_elements r cs h.1)

  pub elements_are_roots : (cs : List ℕ) → ((x : ℕ) → x < 2 ^ k → value mul cs x ≡ 0) → (n : ℕ) → n ≤ 2 ^ k → AreRoots mul k cs (upto n)
  unfolding upto
  elements_are_roots cs z zero h = tt
  elements_are_roots cs z (suc n) h = (h, z n h, upto_apart n n (omega arith), elements_are_roots cs z n (omega arith))

  module _ (field : HasNoZeroDivisors k mul) where
    -- the other roots are roots of the quotient
    other_roots : (r c : ℕ) (cs xs : List ℕ) → r < 2 ^ k → AllElements k cs → value mul (c ∷ cs) r ≡ 0 → AllByRecursion (λ y. r ≢ y) xs → AreRoots mul k (c ∷ cs) xs → AreRoots mul k (divided mul r cs) xs
    other_roots r c cs [] hr h root apart roots = tt
    other_roots r c cs (x ∷ xs) hr h root apart roots =
        (roots.0, zero_at, roots.2, other_roots r c cs xs hr h root apart.1 roots.3)
      where
        product_zero : mul (bit_xor x r) (value mul (divided mul r cs) x) ≡ 0
        product_zero = sym (divided_lem r c cs x) ∙ ap₂ bit_xor roots.1 root ∙ xor_self 0

        zero_at : value mul (divided mul r cs) x ≡ 0
        zero_at = elim (cases_eq (value mul (divided mul r cs) x) 0) [
          | inl is ↦ is
          | inr other ↦ absurd (field.nonzero (bit_xor x r) (value mul (divided mul r cs) x) (xor_lt k x r roots.0 hr) (value_below (divided mul r cs) x (divided_elements r cs h)) (λ e. apart.0 (sym (xor_same x r e))) other product_zero)
        ]

    -- a polynomial with as many roots as coefficients is 0
    pub all_zero : (xs cs : List ℕ) → length cs ≤ length xs → AllElements k cs → AreRoots mul k cs xs → AllZero cs
    all_zero xs [] le h roots = tt
    all_zero [] (c ∷ cs) le h roots = absurd (omega arith)
    all_zero (r ∷ xs) (c ∷ cs) le h roots =
        let rest : AllZero cs = divided_zero r cs (all_zero xs (divided mul r cs) (omega (arith, divided_length r cs)) (divided_elements r cs h.1) (other_roots r c cs xs roots.0 h.1 roots.1 roots.2 roots.3)) in
        (first rest, rest)
      where
        value_zero : (cs : List ℕ) (x : ℕ) → AllZero cs → value mul cs x ≡ 0
        value_zero [] x h = refl
        value_zero (c ∷ cs) x h = ap₂ bit_xor h.0 (ap (mul x) (value_zero cs x h.1) ∙ mul_zero k mul ring x) ∙ xor_self 0

        first : AllZero cs → c ≡ 0
        first z = sym (xor_zero_r c) ∙ ap (bit_xor c) (sym (ap (mul r) (value_zero cs r z) ∙ mul_zero k mul ring r)) ∙ roots.1

    pub HasRootsUpToDegree-from_field : HasRootsUpToDegree k mul
    HasRootsUpToDegree-from_field cs leading roots all ne are = elim (cases_lt (length cs) (length roots)) [
      | inl less ↦ absurd (ne (AllZero-last cs (leading ∷ []) (all_zero roots (cs ++ leading ∷ []) (omega (arith, length-append cs (leading ∷ []))) all are)).0)
      | inr le ↦ le
    ]

    pub HasFewRoots-from_field : HasFewRoots k mul
    HasFewRoots-from_field = record {
      zeros = λ cs le all z. all_zero (upto (2 ^ k)) cs (rw (upto_length (2 ^ k)) le) all (elements_are_roots cs z (2 ^ k) (omega arith));
    }
