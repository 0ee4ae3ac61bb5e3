-- The values of products with one factor more, and of all factors.
use Rattle.std.proofs.Common.{◌≡◌, ◌≢◌, ◌∙◌, ap, sym, refl, ℕ, zero, suc, ◌<◌, ◌≤◌, ◌+◌, ◌-◌, ◌*◌, ◌/◌, ◌%◌, ◌^◌, Bool, true, false, cond, List, [], ◌∷◌, ◌++◌, length, take, Some, ◌==◌, arith, add-one, mul_assoc, mul_comm, length-append}
use Rattle.std.specs.Prelude.{slice_get, slice_index}
use Rattle.std.specs.List.{AllByRecursion}
use Rattle.std.proofs.Math.Nat.{pow-succ', add-mul}
use Rattle.std.proofs.lemmas.Bool.{eq-eqb}
use Rattle.std.proofs.lemmas.Bool.Decides.{nat_tests}
use Rattle.lists.specs.laws.TakeLaws.{taken_more}
use Rattle.gf_field.specs.Ring.{IsRing}
use Rattle.gf_field.specs.Power.{power}
use Rattle.gf_field.specs.laws.PowerLaws.{power-add, one_below}
use Rattle.term_expand.specs.SumValue.{powers_at, ones_of, factors_with, factors_of, product_at}

-- ---- lists of factors

factors_with_long : (w : ℕ) (js : List ℕ) → length (factors_with w js) ≡ length js
factors_with_long w [] = refl
factors_with_long w (j ∷ js) = ap suc (factors_with_long w js)

ones_few : (n first e : ℕ) → length (ones_of n first e) ≤ n
ones_few zero first e = omega arith
ones_few (suc n) first e =
    elim (e % 2 == 1) as (λ b. length (cond b (first ∷ ones_of n (first + 1) (e / 2)) (ones_of n (first + 1) (e / 2))) ≤ suc n) [
      | true ↦ omega (arith, ones_few n (first + 1) (e / 2))
      | false ↦ omega (arith, ones_few n (first + 1) (e / 2))
    ]

pub factors_few : (ps : List (ℕ × ℕ)) → length (factors_of ps) ≤ 64 * length ps
factors_few [] = omega arith
factors_few (p ∷ ps) = omega (arith, length-append (factors_with p.0 (ones_of 64 0 p.1)) (factors_of ps), factors_with_long p.0 (ones_of 64 0 p.1), ones_few 64 0 p.1, factors_few ps)

-- ---- values

halved : (e n : ℕ) → e < 2 ^ suc n → e / 2 < 2 ^ n
halved e n less = omega (arith, less, pow-succ' 2 n)

digit_odd : (e : ℕ) → (e % 2 == 1) ≡ true → e ≡ 2 * (e / 2) + 1
digit_odd e h = let one : e % 2 ≡ 1 = grind (arith, nat_tests) in omega (arith, one)

digit_even : (e : ℕ) → (e % 2 == 1) ≡ false → e ≡ 2 * (e / 2)
digit_even e h = let other : e % 2 ≢ 1 = (λ q. let bad : true ≡ false = sym (eq-eqb (e % 2) 1 q) ∙ h in cc) in omega (arith, other)

spread : (h p q e : ℕ) → q ≡ 2 * p → e ≡ 2 * h + 1 → p + h * q ≡ e * p
spread h p q e is odd =
    let f : h * q ≡ h * 2 * p = ap (λ x. h * x) is ∙ sym (mul_assoc h 2 p) in
    let g : e * p ≡ (2 * h + 1) * p = ap (λ x. x * p) odd in
    omega (arith, f, g, add-mul (2 * h) 1 p, (ap (λ x. x * p) (mul_comm h 2)))

spread_even : (h p q e : ℕ) → q ≡ 2 * p → e ≡ 2 * h → h * q ≡ e * p
spread_even h p q e is even = ap (λ x. h * x) is ∙ sym (mul_assoc h 2 p) ∙ ap (λ x. x * p) (mul_comm h 2 ∙ sym even)

two_more : (first : ℕ) → 2 ^ (first + 1) ≡ 2 * 2 ^ first
two_more first = ap (λ n. 2 ^ n) (add-one first) ∙ pow-succ' 2 first

odd_sum : (e first : ℕ) → (e % 2 == 1) ≡ true → 2 ^ first + e / 2 * 2 ^ (first + 1) ≡ e * 2 ^ first
odd_sum e first h = spread (e / 2) (2 ^ first) (2 ^ (first + 1)) e (two_more first) (digit_odd e h)

even_sum : (e first : ℕ) → (e % 2 == 1) ≡ false → e / 2 * 2 ^ (first + 1) ≡ e * 2 ^ first
even_sum e first h = spread_even (e / 2) (2 ^ first) (2 ^ (first + 1)) e (two_more first) (digit_even e h)

module _ (k : ℕ) (mul : ℕ → ℕ → ℕ) (ring : IsRing k mul) (xs : List ℕ) where
  powers_more : (ps : List (ℕ × ℕ)) (p : ℕ × ℕ) → powers_at mul xs (ps ++ p ∷ []) ≡ mul (powers_at mul xs ps) (power mul (slice_index xs p.0) p.1)
  powers_more [] p = ring.comm (power mul (slice_index xs p.0) p.1) 1
  powers_more (q ∷ ps) p =
      ap (mul (power mul (slice_index xs q.0) q.1)) (powers_more ps p)
      ∙ sym (ring.assoc (power mul (slice_index xs q.0) q.1) (powers_at mul xs ps) (power mul (slice_index xs p.0) p.1))

  powers_below : (ps : List (ℕ × ℕ)) → powers_at mul xs ps < 2 ^ k
  powers_below [] = one_below k mul ring
  powers_below (p ∷ ps) = ring.closed (power mul (slice_index xs p.0) p.1) (powers_at mul xs ps)

  powers_both : (ps qs : List (ℕ × ℕ)) → powers_at mul xs (ps ++ qs) ≡ mul (powers_at mul xs ps) (powers_at mul xs qs)
  powers_both [] qs = sym (ring.one (powers_at mul xs qs) (powers_below qs))
  powers_both (p ∷ ps) qs =
      ap (mul (power mul (slice_index xs p.0) p.1)) (powers_both ps qs)
      ∙ sym (ring.assoc (power mul (slice_index xs p.0) p.1) (powers_at mul xs ps) (powers_at mul xs qs))

  -- one factor more
  pub product_more : (t : ℕ × List (ℕ × ℕ)) (n w e : ℕ) → slice_get (factors_of t.1) n ≡ Some (w, e) → product_at mul xs t (n + 1) ≡ mul (product_at mul xs t n) (power mul (slice_index xs w) e)
  product_more t n w e got =
      ap (λ fs. mul t.0 (powers_at mul xs fs)) (taken_more (factors_of t.1) n (w, e) got)
      ∙ ap (mul t.0) (powers_more (take n (factors_of t.1)) (w, e))
      ∙ sym (ring.assoc t.0 (powers_at mul xs (take n (factors_of t.1))) (power mul (slice_index xs w) e))

  -- no factor
  pub product_none : (t : ℕ × List (ℕ × ℕ)) → t.0 < 2 ^ k → t.0 ≡ product_at mul xs t 0
  product_none t less = sym (ring.comm t.0 1 ∙ ring.one t.0 less)

  -- the binary digits of an exponent
  ones_value : (w n first e : ℕ) → e < 2 ^ n → powers_at mul xs (factors_with w (ones_of n first e)) ≡ power mul (slice_index xs w) (e * 2 ^ first)
  unfolding power
  ones_value w zero first e less = let none : e ≡ 0 = omega (arith, less) in sym (ap (λ m. power mul (slice_index xs w) m) (zero_times e (2 ^ first) none))
    where
      zero_times : (a b : ℕ) → a ≡ 0 → a * b ≡ 0
      zero_times a b q = ap (λ m. m * b) q ∙ (let z : 0 * b ≡ 0 = omega arith in z)
  ones_value w (suc n) first e less =
      let rest : powers_at mul xs (factors_with w (ones_of n (first + 1) (e / 2))) ≡ power mul (slice_index xs w) (e / 2 * 2 ^ (first + 1)) = ones_value w n (first + 1) (e / 2) (halved e n less) in
      elim (e % 2 == 1) as (λ b. (e % 2 == 1) ≡ b → powers_at mul xs (factors_with w (cond b (first ∷ ones_of n (first + 1) (e / 2)) (ones_of n (first + 1) (e / 2)))) ≡ power mul (slice_index xs w) (e * 2 ^ first)) [
        | true ↦ λ odd.
            ap (mul (power mul (slice_index xs w) (2 ^ first))) rest
            ∙ sym (power-add k mul ring (slice_index xs w) (2 ^ first) (e / 2 * 2 ^ (first + 1)))
            ∙ ap (power mul (slice_index xs w)) (odd_sum e first odd)
        | false ↦ λ even. rest ∙ ap (power mul (slice_index xs w)) (even_sum e first even)
      ] refl

  -- the factors of pairs have the pairs' value
  pub factors_value : (ps : List (ℕ × ℕ)) → AllByRecursion (λ (p : ℕ × ℕ). p.1 < 2 ^ 64) ps → powers_at mul xs (factors_of ps) ≡ powers_at mul xs ps
  factors_value [] all = refl
  factors_value (p ∷ ps) all =
      powers_both (factors_with p.0 (ones_of 64 0 p.1)) (factors_of ps)
      ∙ (λ i. mul ((ones_value p.0 64 0 p.1 all.0 ∙ ap (power mul (slice_index xs p.0)) (times_one p.1)) i) (factors_value ps all.1 i))
    where
      times_one : (n : ℕ) → n * 2 ^ 0 ≡ n
      times_one n = omega arith

  -- all factors
  pub product_all : (t : ℕ × List (ℕ × ℕ)) (n : ℕ) → n ≡ length (factors_of t.1) → AllByRecursion (λ (p : ℕ × ℕ). p.1 < 2 ^ 64) t.1 → product_at mul xs t n ≡ mul t.0 (powers_at mul xs t.1)
  product_all t n e all = ap (λ fs. mul t.0 (powers_at mul xs fs)) (ap (λ m. take m (factors_of t.1)) e ∙ whole (factors_of t.1)) ∙ ap (mul t.0) (factors_value t.1 all)
    where
      whole : (fs : List (ℕ × ℕ)) → take (length fs) fs ≡ fs
      whole [] = refl
      whole (f ∷ fs) = ap (λ gs. f ∷ gs) (whole fs)
