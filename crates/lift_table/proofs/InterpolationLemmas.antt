-- The coefficients of a function of one word have its values.
use Rattle.std.proofs.Common.{◌≡◌, ◌≢◌, ℕ, zero, suc, ◌<◌, ◌≤◌, ◌*◌, ◌-◌, ◌^◌, sym, refl, ◌∙◌, ap, subst, inl, inr, arith}
use Rattle.std.specs.Prelude.{bit_xor}
use Rattle.std.proofs.Math.Nat.{pow-suc}
use Rattle.std.proofs.lemmas.Nat.{pow_pos}
use Rattle.std.proofs.lemmas.Bool.{cases_eq}
use Rattle.std.specs.Int.Bits.{xor_self, xor_zero_l, xor_zero_r, xor_lt}
use Rattle.lists.specs.laws.XorLaws.{xor_cancel, xor_same, xor_drop_outer}
use Rattle.gf_field.proofs.SharedLemmas.{same_sum, sum_zero, sum_open}
use Rattle.gf_field.specs.Ring.{IsRing}
use Rattle.gf_field.specs.Field.{HasNoZeroDivisors}
use Rattle.gf_field.specs.laws.FermatLaws.{power_same}
use Rattle.gf_field.specs.Power.{power}
use Rattle.gf_field.specs.laws.PowerLaws.{one_below, power_below}
use Rattle.gf_field.specs.Polynomial.{sum_of_first}
use Rattle.gf_field.specs.laws.RingLaws.{distrib_left, mul_zero, zero_mul, mul_one, mul_left_comm}
use Rattle.lift_table.specs.OneWord.{coefficient_of}
use Rattle.lift_table.proofs.SumLemmas.{sum_swap, sum_scale, sum_scale_right}

module _ (k : ℕ) (mul : ℕ → ℕ → ℕ) (ring : IsRing k mul) (field : HasNoZeroDivisors k mul) where
  -- the sum of y^(m - 1 - e) * x^e for e below m
  abbrev between : ℕ → ℕ → ℕ → ℕ
  between x y zero = 0
  between x y (suc m) = bit_xor (power mul y m) (mul x (between x y m))

  between_below : (x y m : ℕ) → between x y m < 2 ^ k
  between_below x y zero = let one = one_below k mul ring in omega arith
  between_below x y (suc m) = xor_lt k (power mul y m) (mul x (between x y m)) (power_below k mul ring y m) (ring.closed x (between x y m))

  telescoped : (x y m : ℕ) → mul (bit_xor x y) (between x y m) ≡ bit_xor (power mul x m) (power mul y m)
  unfolding power
  telescoped x y zero = mul_zero k mul ring (bit_xor x y) ∙ sym (xor_self 1)
  telescoped x y (suc m) =
      let d = bit_xor x y in
      let p = power mul y m in
      let q = power mul x m in
      let g = between x y m in
      ring.distrib d p (mul x g)
      ∙ ((λ i. bit_xor (distrib_left k mul ring x y p i) ((mul_left_comm k mul ring d x g ∙ (ap (mul x) (telescoped x y m) ∙ ring.distrib x q p)) i))
      ∙ xor_drop_outer (mul x p) (mul y p) (mul x q))

  -- the sum as a sum
  is_between : (x y m : ℕ) → sum_of_first m (λ e. mul (power mul y (m - suc e)) (power mul x e)) ≡ between x y m
  unfolding power
  is_between x y zero = refl
  is_between x y (suc m) =
      sum_open m (λ e. mul (power mul y (suc m - suc e)) (power mul x e))
      ∙ (λ i. bit_xor (first i) (later (is_between x y m) i))
    where
      whole : suc m - suc 0 ≡ m
      whole = omega arith

      first : mul (power mul y (suc m - suc 0)) 1 ≡ power mul y m
      first = mul_one k mul ring (power mul y (suc m - suc 0)) (power_below k mul ring y (suc m - suc 0)) ∙ ap (power mul y) whole

      shorter : (e : ℕ) → suc m - suc (suc e) ≡ m - suc e
      shorter e = omega arith

      one : (e : ℕ) → mul (power mul y (suc m - suc (suc e))) (mul x (power mul x e)) ≡ mul x (mul (power mul y (m - suc e)) (power mul x e))
      one e = mul_left_comm k mul ring (power mul y (suc m - suc (suc e))) x (power mul x e) ∙ ap (λ n. mul x (mul (power mul y n) (power mul x e))) (shorter e)

      later : sum_of_first m (λ e. mul (power mul y (m - suc e)) (power mul x e)) ≡ between x y m → sum_of_first m (λ e. mul (power mul y (suc m - suc (suc e))) (mul x (power mul x e))) ≡ mul x (between x y m)
      later before =
          same_sum m (λ e. mul (power mul y (suc m - suc (suc e))) (mul x (power mul x e))) (λ e. mul x (mul (power mul y (m - suc e)) (power mul x e))) (λ e less. one e)
          ∙ (sum_scale k mul ring x m (λ e. mul (power mul y (m - suc e)) (power mul x e)) ∙ ap (mul x) before)

  -- where the two are the same, only an odd number of summands does not cancel
  diagonal : (x j : ℕ) → (mul x (between x x (2 * j)) ≡ 0) × (mul x (between x x (suc (2 * j))) ≡ power mul x (suc (2 * j)))
  unfolding power
  diagonal x zero = (mul_zero k mul ring x, ap (mul x) (ap (bit_xor 1) (mul_zero k mul ring x) ∙ xor_zero_r 1))
  diagonal x (suc j) =
      let twice : 2 * suc j ≡ suc (suc (2 * j)) = omega arith in
      let P : ℕ → Type 0 = λ n. (mul x (between x x n) ≡ 0) × (mul x (between x x (suc n)) ≡ power mul x (suc n)) in
      let n = 2 * j in
      let even : mul x (between x x (suc (suc n))) ≡ 0 = ap (mul x) (ap (bit_xor (power mul x (suc n))) (diagonal x j).1 ∙ xor_self (power mul x (suc n))) ∙ mul_zero k mul ring x in
      let odd : mul x (between x x (suc (suc (suc n)))) ≡ power mul x (suc (suc (suc n))) = ap (mul x) (ap (bit_xor (power mul x (suc (suc n)))) even ∙ xor_zero_r (power mul x (suc (suc n)))) in
      subst P (sym twice) (even, odd)

  module _ (m : ℕ) (all : 2 ^ k ≡ suc m) where
    -- all elements but 0 have the power 1
    unit_power : (x : ℕ) → x < 2 ^ k → x ≢ 0 → power mul x m ≡ 1
    unfolding power
    unit_power x less other =
        let whole : mul x (power mul x m) ≡ x = ap (power mul x) (sym all) ∙ power_same k mul ring field x less in
        let none : mul x (bit_xor (power mul x m) 1) ≡ 0 = ring.distrib x (power mul x m) 1 ∙ ((λ i. bit_xor (whole i) (mul_one k mul ring x less i)) ∙ xor_self x) in
        xor_same (power mul x m) 1 (zero_factor x (bit_xor (power mul x m) 1) less (xor_lt k (power mul x m) 1 (power_below k mul ring x m) (one_below k mul ring)) none other)
      where
        zero_factor : (a b : ℕ) → a < 2 ^ k → b < 2 ^ k → mul a b ≡ 0 → a ≢ 0 → b ≡ 0
        zero_factor a b ha hb e na = elim (cases_eq b 0) [ inl z ↦ z | inr nb ↦ absurd (field.nonzero a b ha hb na nb e) ]

    -- what a value at y counts at x
    abbrev share : ℕ → ℕ → ℕ
    share x y = mul x (between x y m)

    some : 1 ≤ m
    some = let one = one_below k mul ring in omega (arith, all)

    no_power : (n : ℕ) → 1 ≤ n → power mul 0 n ≡ 0
    unfolding power
    no_power zero h = absurd (omega arith)
    no_power (suc n) h = zero_mul k mul ring (power mul 0 n)

    share_zero : (x : ℕ) → x < 2 ^ k → x ≢ 0 → share x 0 ≡ 1
    share_zero x less other =
        ap (λ n. mul n (between x 0 m)) (sym (xor_zero_r x))
        ∙ (telescoped x 0 m ∙ ((λ i. bit_xor (unit_power x less other i) (no_power m some i)) ∙ xor_zero_r 1))

    share_other : (x y : ℕ) → x < 2 ^ k → y < 2 ^ k → x ≢ 0 → y ≢ 0 → x ≢ y → share x y ≡ 0
    share_other x y hx hy nx ny apart =
        let none : mul (bit_xor x y) (between x y m) ≡ 0 = telescoped x y m ∙ ((λ i. bit_xor (unit_power x hx nx i) (unit_power y hy ny i)) ∙ xor_self 1) in
        elim (cases_eq (between x y m) 0) [
          | inl z ↦ ap (mul x) z ∙ mul_zero k mul ring x
          | inr n ↦ absurd (field.nonzero (bit_xor x y) (between x y m) (xor_lt k x y hx hy) (between_below x y m) (λ e. apart (xor_same x y e)) n none)
        ]

    share_same : (x : ℕ) → x < 2 ^ k → x ≢ 0 → share x x ≡ 1
    share_same x less other =
        let half = half_of k ring.some in
        let odd : m ≡ suc (2 * half.0) = omega (arith, half.1, all) in
        let P : ℕ → Type 0 = λ n. mul x (between x x n) ≡ power mul x n in
        subst P (sym odd) (diagonal x half.0).1 ∙ unit_power x less other
      where
        half_of : (k : ℕ) → 1 ≤ k → (j : ℕ) × (2 ^ k ≡ suc (suc (2 * j)))
        half_of zero h = absurd (omega arith)
        half_of (suc k) h = let one = pow_one k in (2 ^ k - 1, let twice : 2 ^ suc k ≡ 2 ^ k * 2 = pow-suc 2 k in omega (arith, one, twice))
          where
            pow_one : (k : ℕ) → 1 ≤ 2 ^ k
            pow_one k = pow_pos k

    module _ (v : ℕ → ℕ) (elements : (y : ℕ) → y < 2 ^ k → v y < 2 ^ k) (x : ℕ) (less : x < 2 ^ k) (other : x ≢ 0) where
      abbrev shares : ℕ → ℕ
      shares n = sum_of_first n (λ y. mul (v y) (share x y))

      one_time : (y : ℕ) → y < 2 ^ k → share x y ≡ 1 → mul (v y) (share x y) ≡ v y
      one_time y hy e = ap (mul (v y)) e ∙ mul_one k mul ring (v y) (elements y hy)

      no_time : (y : ℕ) → y < 2 ^ k → y ≢ 0 → y ≢ x → mul (v y) (share x y) ≡ 0
      no_time y hy n apart = ap (mul (v y)) (share_other x y less hy other n (λ e. apart (sym e))) ∙ mul_zero k mul ring (v y)

      -- as far as n, the value at 0 counts, and past x that at x
      shared : (n : ℕ) → n < 2 ^ k → (n < x → shares (suc n) ≡ v 0) × (x ≤ n → shares (suc n) ≡ bit_xor (v 0) (v x))
      shared zero within = ((λ h. ap (bit_xor 0) (one_time 0 (omega arith) (share_zero x less other)) ∙ xor_zero_l (v 0)), λ h. absurd (other (omega arith)))
      shared (suc n) within =
          let before = shared n (omega arith) in (
            (λ h. (λ i. bit_xor (before.0 (omega arith) i) (no_time (suc n) within (λ e. omega arith) (λ e. omega arith) i)) ∙ xor_zero_r (v 0)),
            λ h. elim (cases_eq (suc n) x) [
              | inl e ↦ λ i. bit_xor (before.0 (omega arith) i) ((ap (λ y. mul (v y) (share x y)) e ∙ one_time x less (share_same x less other)) i)
              | inr d ↦ (λ i. bit_xor (before.1 (omega arith) i) (no_time (suc n) within (λ e. omega arith) d i)) ∙ xor_zero_r (bit_xor (v 0) (v x))
            ],
          )

    module _ (v : ℕ → ℕ) (elements : (y : ℕ) → y < 2 ^ k → v y < 2 ^ k) where
      abbrev at : ℕ → ℕ → ℕ
      at x e = mul (coefficient_of k mul v e) (power mul x e)

      -- the terms but the first, as shares of the values
      rest_is : (x : ℕ) → sum_of_first m (λ e. at x (suc e)) ≡ sum_of_first (2 ^ k) (λ y. mul (v y) (share x y))
      unfolding power
      rest_is x =
          same_sum m (λ e. at x (suc e)) (λ e. sum_of_first (2 ^ k) (λ y. part e y)) (λ e less. spread e)
          ∙ (sum_swap m (2 ^ k) part ∙ same_sum (2 ^ k) (λ y. sum_of_first m (λ e. part e y)) (λ y. mul (v y) (share x y)) (λ y less. gathered y))
        where
          part : ℕ → ℕ → ℕ
          part e y = mul (mul (v y) (power mul y (m - suc e))) (power mul x (suc e))

          exponent : (e : ℕ) → 2 ^ k - 1 - suc e ≡ m - suc e
          exponent e = omega (arith, all)

          spread : (e : ℕ) → at x (suc e) ≡ sum_of_first (2 ^ k) (λ y. part e y)
          spread e =
              ap (λ n. mul (sum_of_first (2 ^ k) (λ y. mul (v y) (power mul y n))) (power mul x (suc e))) (exponent e)
              ∙ sym (sum_scale_right k mul ring (power mul x (suc e)) (2 ^ k) (λ y. mul (v y) (power mul y (m - suc e))))

          moved : (e y : ℕ) → part e y ≡ mul (v y) (mul x (mul (power mul y (m - suc e)) (power mul x e)))
          moved e y = ring.assoc (v y) (power mul y (m - suc e)) (power mul x (suc e)) ∙ ap (mul (v y)) (mul_left_comm k mul ring (power mul y (m - suc e)) x (power mul x e))

          gathered : (y : ℕ) → sum_of_first m (λ e. part e y) ≡ mul (v y) (share x y)
          gathered y =
              same_sum m (λ e. part e y) (λ e. mul (v y) (mul x (mul (power mul y (m - suc e)) (power mul x e)))) (λ e less. moved e y)
              ∙ (sum_scale k mul ring (v y) m (λ e. mul x (mul (power mul y (m - suc e)) (power mul x e)))
              ∙ ap (mul (v y)) (sum_scale k mul ring x m (λ e. mul (power mul y (m - suc e)) (power mul x e)) ∙ ap (mul x) (is_between x y m)))

      first_is : (x : ℕ) → at x 0 ≡ v 0
      unfolding power
      first_is x = mul_one k mul ring (v 0) (elements 0 (omega (arith, all)))

      at_zero : sum_of_first m (λ e. at 0 (suc e)) ≡ 0
      at_zero = sum_zero m (λ e. at 0 (suc e)) (λ e less. ap (mul (coefficient_of k mul v (suc e))) (no_power (suc e) (omega arith)) ∙ mul_zero k mul ring (coefficient_of k mul v (suc e)))

      opened : (x : ℕ) → sum_of_first (2 ^ k) (at x) ≡ bit_xor (v 0) (sum_of_first m (λ e. at x (suc e)))
      opened x = ap (λ n. sum_of_first n (at x)) all ∙ (sum_open m (at x) ∙ ap (λ n. bit_xor n (sum_of_first m (λ e. at x (suc e)))) (first_is x))

      at_other : (x : ℕ) → x < 2 ^ k → x ≢ 0 → sum_of_first m (λ e. at x (suc e)) ≡ bit_xor (v 0) (v x)
      at_other x less other = rest_is x ∙ (ap (λ n. sum_of_first n (λ y. mul (v y) (share x y))) all ∙ (shared v elements x less other m (omega (arith, all))).1 (omega (arith, all)))

      valued : (x : ℕ) → x < 2 ^ k → sum_of_first (2 ^ k) (at x) ≡ v x
      valued x less =
          opened x ∙ elim (cases_eq x 0) [
            | inl z ↦ ap (bit_xor (v 0)) (ap (λ n. sum_of_first m (λ e. at n (suc e))) z ∙ at_zero) ∙ (xor_zero_r (v 0) ∙ ap v (sym z))
            | inr n ↦ ap (bit_xor (v 0)) (at_other x less n) ∙ xor_cancel (v 0) (v x)
          ]

  pub interpolated : (v : ℕ → ℕ) → ((y : ℕ) → y < 2 ^ k → v y < 2 ^ k) → (x : ℕ) → x < 2 ^ k → sum_of_first (2 ^ k) (λ e. mul (coefficient_of k mul v e) (power mul x e)) ≡ v x
  interpolated v elements x less = let one = one_below k mul ring in valued (2 ^ k - 1) (omega arith) v elements x less
