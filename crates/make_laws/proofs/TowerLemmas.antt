-- The coefficients of a product in a tower, by the coefficients of its factors and those of the powers of Y.
use Rattle.std.proofs.Common.{◌≡◌, ℕ, zero, suc, refl, sym, ◌∙◌, ap, ap₂, ◌<◌, ◌≤◌, ◌^◌, ◌+◌, ◌*◌, ◌-◌, arith, pow_pos, subst, List}
use Rattle.std.specs.Prelude.{bit_xor}
use Rattle.std.specs.Int.Bits.{xor_zero_r}
use Rattle.std.proofs.lemmas.Nat.{pow_below, shr_high, mod_low}
use Rattle.lists.specs.laws.NumberLaws.{once_plus_zero, below_times, times_positive}
use Rattle.gf_field.proofs.SharedLemmas.{same_sum}
use mathlib.Core.Path.{fun_ext}
use Rattle.gf_field.specs.Ring.{IsRing}
use Rattle.gf_field.specs.Power.{power}
use Rattle.gf_field.specs.Polynomial.{coefficient, convolution, sum_of_first, IsMonic}
use Rattle.gf_field.specs.Quotient.{none, unit, plus, times, shift, rest, step, reduced, product}
use Rattle.gf_field.specs.laws.RingLaws.{zero_mul}
use Rattle.gf_field.specs.laws.QuotientLaws.{EndsAt, AllBelow, quotient_one}
use Rattle.gf_field.specs.laws.DivisionLaws.{convolution_ends, convolution_below}
use Rattle.gf_field.specs.laws.PackingLaws.{coefficient_one, coefficient_zero, coefficient_suc, coefficient_below, coefficient_ends}
use Rattle.gf_field.specs.laws.QuotientRingLaws.{product_below, coefficient-product}
use Rattle.gf_tower.specs.Tower.{tower_polynomial}
use Rattle.gf_tower.specs.Digits.{IsPackedList}
use Rattle.gf_tower.specs.laws.TowerLaws.{IsMonic-tower}
use Rattle.make_laws.specs.TowerProduct.{HasTowerCoefficients}
use Rattle.make_laws.proofs.ReductionLemmas.{stepped, reduced_shift, reduced_sum, reduced_nothing, step_none, product_sum_of_powers}
use Rattle.make_laws.proofs.RingSumLemmas.{sum_split}

-- the first m coefficients
cut : ℕ → (ℕ → ℕ) → ℕ → ℕ
cut zero f i = 0
cut (suc m) f zero = f 0
cut (suc m) f (suc i) = cut m (rest f) i

cut_same : (m : ℕ) (f : ℕ → ℕ) (i : ℕ) → i < m → cut m f i ≡ f i
unfolding cut
cut_same zero f i h = absurd (omega arith)
cut_same (suc m) f zero h = refl
cut_same (suc m) f (suc i) h = cut_same m (rest f) i (omega arith)

cut_ends : (m : ℕ) (f : ℕ → ℕ) → EndsAt m (cut m f)
unfolding cut
cut_ends zero f i h = refl
cut_ends (suc m) f zero h = absurd (omega arith)
cut_ends (suc m) f (suc i) h = cut_ends m (rest f) i (omega arith)

cut_below : (n m : ℕ) (f : ℕ → ℕ) → AllBelow n f → AllBelow n (cut m f)
unfolding cut
cut_below n zero f b i = pow_pos n
cut_below n (suc m) f b zero = b 0
cut_below n (suc m) f b (suc i) = cut_below n m (rest f) (λ j. b (suc j)) i

module _ (n : ℕ) (mul : ℕ → ℕ → ℕ) (ring : IsRing n mul) (d g : ℕ) (monic : IsMonic n (suc (suc d)) g) where
  -- the number that has the coefficients of Y
  coefficient_Y : coefficient n (2 ^ n) ≡ shift unit
  coefficient_Y = ap (coefficient n) (once_plus_zero (2 ^ n)) ∙ fun_ext at
    where
      at : (i : ℕ) → coefficient n (1 * 2 ^ n + 0) i ≡ shift unit i
      at zero = coefficient_zero n (1 * 2 ^ n + 0) ∙ mod_low 1 n 0 (pow_pos n)
      at (suc i) = coefficient_suc n (1 * 2 ^ n + 0) i ∙ ap (λ z. coefficient n z i) (shr_high 1 n 0 (pow_pos n)) ∙ ap (λ h. h i) (coefficient_one n ring.some)

  Y_below : 2 ^ n < 2 ^ (n * suc (suc d))
  Y_below = pow_below n (n * suc (suc d)) (below_times n d ring.some)

  power_Y_below : (i : ℕ) → power (product n (suc (suc d)) mul g) (2 ^ n) i < 2 ^ (n * suc (suc d))
  unfolding power
  power_Y_below zero = pow_below 0 (n * suc (suc d)) (times_positive n d ring.some)
  power_Y_below (suc i) = product_below n (suc d) mul g ring monic (2 ^ n) (power (product n (suc (suc d)) mul g) (2 ^ n) i)

  unit_times : (m : ℕ) (f : ℕ → ℕ) → AllBelow n f → reduced mul (suc d) (coefficient n g) (suc m) unit f ≡ f
  unit_times m f b =
      ap (λ p. plus (times mul 1 f) (step mul (suc d) (coefficient n g) p)) (reduced_nothing n mul ring (suc d) (coefficient n g) m none f (λ i. refl))
      ∙ ap (plus (times mul 1 f)) (step_none n mul ring (suc d) (coefficient n g))
      ∙ fun_ext (λ i. xor_zero_r (mul 1 (f i)) ∙ ring.one (f i) (b i))

  -- the coefficients of the powers of Y
  coefficient_power : (i : ℕ) → coefficient n (power (product n (suc (suc d)) mul g) (2 ^ n) i) ≡ stepped mul (suc d) (coefficient n g) i unit
  unfolding power stepped
  coefficient_power zero = coefficient_one n ring.some
  coefficient_power (suc i) =
      coefficient-product n (suc d) mul g ring monic (2 ^ n) (power (product n (suc (suc d)) mul g) (2 ^ n) i) Y_below (power_Y_below i)
      ∙ ap (λ f. reduced mul (suc d) (coefficient n g) (suc (suc d)) f (coefficient n (power (product n (suc (suc d)) mul g) (2 ^ n) i))) coefficient_Y
      ∙ reduced_shift n mul ring (suc d) (coefficient n g) (suc d) unit (coefficient n (power (product n (suc (suc d)) mul g) (2 ^ n) i))
      ∙ ap (step mul (suc d) (coefficient n g)) (unit_times d (coefficient n (power (product n (suc (suc d)) mul g) (2 ^ n) i)) (coefficient_below n (power (product n (suc (suc d)) mul g) (2 ^ n) i)) ∙ coefficient_power i)

  -- below the degree nothing is reduced
  low_sum : (f : ℕ → ℕ) → AllBelow n f → (i : ℕ) → i < suc (suc d) → sum_of_first (suc (suc d)) (λ t. mul (f t) (stepped mul (suc d) (coefficient n g) t unit i)) ≡ f i
  low_sum f b i h =
      same_sum (suc (suc d)) (λ t. mul (f t) (stepped mul (suc d) (coefficient n g) t unit i)) (λ t. mul (cut (suc (suc d)) f t) (stepped mul (suc d) (coefficient n g) t unit i))
      (λ t l. ap (λ x. mul x (stepped mul (suc d) (coefficient n g) t unit i)) (sym (cut_same (suc (suc d)) f t l)))
      ∙ sym (reduced_sum n mul ring (suc d) (coefficient n g) (suc (suc d)) (cut (suc (suc d)) f) unit i)
      ∙ ap (λ p. p i) (quotient_one n mul ring (suc d) (coefficient n g) monic.leading monic.last (cut (suc (suc d)) f) (cut_below n (suc (suc d)) f b) (cut_ends (suc (suc d)) f))
      ∙ cut_same (suc (suc d)) f i h

  module _ (a b : ℕ) (ha : a < 2 ^ (n * suc (suc d))) (hb : b < 2 ^ (n * suc (suc d))) where
    -- the sum of the products of coefficients whose places add up to t
    abbrev pairs : ℕ → ℕ
    pairs t = convolution mul (coefficient n a) (coefficient n b) t

    pairs_end : EndsAt (suc (suc d) + suc d) pairs
    pairs_end = convolution_ends n mul ring (suc (suc d)) (suc d) (coefficient n a) (coefficient n b) (coefficient_ends n (suc (suc d)) a ha) (coefficient_ends n (suc (suc d)) b hb)

    -- coefficient i of a product
    pub coefficient_of_product : (i : ℕ) → i < suc (suc d) → coefficient n (product n (suc (suc d)) mul g a b) i ≡ bit_xor (pairs i) (sum_of_first (suc d) (λ t. mul (pairs (suc (suc d) + t)) (coefficient n (power (product n (suc (suc d)) mul g) (2 ^ n) (suc (suc d) + t)) i)))
    coefficient_of_product i h =
        ap (λ p. p i) (coefficient-product n (suc d) mul g ring monic a b ha hb)
        ∙ product_sum_of_powers n mul ring (suc d) (coefficient n g) monic.leading monic.last (coefficient n a) (coefficient n b) (coefficient_ends n (suc (suc d)) a ha) (coefficient_below n b) (coefficient_ends n (suc (suc d)) b hb) i
        ∙ sum_split (suc (suc d)) (suc (suc d)) (λ t. mul (pairs t) (stepped mul (suc d) (coefficient n g) t unit i))
        ∙ ap₂ bit_xor (low_sum pairs (convolution_below n mul ring (coefficient n a) (coefficient n b)) i h) (last_none ∙ same_sum (suc d) (λ t. mul (pairs (suc (suc d) + t)) (stepped mul (suc d) (coefficient n g) (suc (suc d) + t) unit i)) (λ t. mul (pairs (suc (suc d) + t)) (coefficient n (power (product n (suc (suc d)) mul g) (2 ^ n) (suc (suc d) + t)) i))
        (λ t l. ap (λ p. mul (pairs (suc (suc d) + t)) (p i)) (sym (coefficient_power (suc (suc d) + t)))))
      where
        last_none : sum_of_first (suc (suc d)) (λ t. mul (pairs (suc (suc d) + t)) (stepped mul (suc d) (coefficient n g) (suc (suc d) + t) unit i)) ≡ sum_of_first (suc d) (λ t. mul (pairs (suc (suc d) + t)) (stepped mul (suc d) (coefficient n g) (suc (suc d) + t) unit i))
        last_none =
            ap (bit_xor (sum_of_first (suc d) (λ t. mul (pairs (suc (suc d) + t)) (stepped mul (suc d) (coefficient n g) (suc (suc d) + t) unit i))))
            (ap (λ x. mul x (stepped mul (suc d) (coefficient n g) (suc (suc d) + suc d) unit i)) (pairs_end (suc (suc d) + suc d) (omega arith)) ∙ zero_mul n mul ring (stepped mul (suc d) (coefficient n g) (suc (suc d) + suc d) unit i))
            ∙ xor_zero_r (sum_of_first (suc d) (λ t. mul (pairs (suc (suc d) + t)) (stepped mul (suc d) (coefficient n g) (suc (suc d) + t) unit i)))

-- the coefficients of a product in a tower, whose polynomial is monic
pub tower_coefficients : (n m low : ℕ) (cs : List ℕ) → IsPackedList n m low cs → (mul : ℕ → ℕ → ℕ) → IsRing n mul → HasTowerCoefficients n m mul (tower_polynomial n cs)
tower_coefficients n m low cs ok mul ring = at m ok.two (IsMonic-tower n m low cs ok mul ring)
  where
    larger : (d : ℕ) → IsMonic n (suc (suc d)) (tower_polynomial n cs) → HasTowerCoefficients n (suc (suc d)) mul (tower_polynomial n cs)
    larger d monic = λ a b e ha hb h.
        let less : suc d ≡ suc (suc d) - 1 = omega arith in
        let P : ℕ → Type 0 = λ l. coefficient n (product n (suc (suc d)) mul (tower_polynomial n cs) a b) e ≡ bit_xor (convolution mul (coefficient n a) (coefficient n b) e) (sum_of_first l (λ t. mul (convolution mul (coefficient n a) (coefficient n b) (suc (suc d) + t)) (coefficient n (power (product n (suc (suc d)) mul (tower_polynomial n cs)) (2 ^ n) (suc (suc d) + t)) e))) in
        subst P less (coefficient_of_product n mul ring d (tower_polynomial n cs) monic a b ha hb e h)

    at : (m : ℕ) → 2 ≤ m → IsMonic n m (tower_polynomial n cs) → HasTowerCoefficients n m mul (tower_polynomial n cs)
    at zero two monic = absurd (omega arith)
    at (suc zero) two monic = absurd (omega arith)
    at (suc (suc d)) two monic = larger d monic
