-- The modulus of a field has a root in each field whose number of elements is a power of its own. For an element y and
-- the class x, y ^ i is the value of x ^ i at y plus a multiple of the value of the modulus; at i = 2 ^ k both powers are
-- the elements themselves, so that without a root the factor would be 0 everywhere.
use Rattle.std.proofs.Common.{◌≡◌, ◌≢◌, ℕ, zero, suc, refl, sym, ◌∙◌, ap, ap₂, ◌<◌, ◌≤◌, ◌^◌, ◌+◌, ◌*◌, inl, inr, arith, pow_pos, subst, eq-or-lt_of_le, List, [], ◌∷◌, length}
use Rattle.std.specs.Prelude.{bit_xor}
use Rattle.std.specs.Int.Bits.{xor_self, xor_lt, xor_zero_l, xor_zero_r, xor_assoc}
use Rattle.std.proofs.lemmas.Bool.{cases_eq}
use Rattle.std.proofs.lemmas.Nat.{pow_below, shr_high, mod_low}
use Rattle.lists.specs.laws.NumberLaws.{once_plus_zero, below_times, times_positive}
use Rattle.lists.specs.laws.XorLaws.{xor_cancel, xor_same}
use mathlib.Core.Path.{fun_ext}
use Rattle.gf_field.specs.Ring.{IsRing}
use Rattle.gf_field.specs.Field.{HasNoZeroDivisors}
use Rattle.gf_field.specs.Power.{power}
use Rattle.gf_field.specs.Polynomial.{coefficient, IsMonic}
use Rattle.gf_field.specs.Quotient.{none, unit, plus, times, shift, rest, step, reduced, product}
use Rattle.gf_field.specs.laws.QuotientLaws.{AllBelow}
use Rattle.gf_field.specs.laws.RingLaws.{mul_zero, zero_mul, mul_one, mul_left_comm}
use Rattle.gf_field.specs.laws.PackingLaws.{coefficient_one, coefficient_below, coefficient_zero, coefficient_suc}
use Rattle.gf_field.specs.laws.PigeonholeLaws.{FoundAt, find}
use Rattle.gf_field.specs.laws.QuotientRingLaws.{product_below, coefficient-product}
use Rattle.gf_field.specs.laws.FermatLaws.{power_same}
use Rattle.gf_field.specs.Roots.{value, AllZero, AllElements}
use Rattle.gf_field.specs.laws.RootsLaws.{HasFewRoots-from_field}
use Rattle.gf_iso.specs.Root.{value_at}
use Rattle.gf_iso.proofs.CarriedLaws.{IsCarried, value_at_below, val_shift, val_open, val_unit, val_step}

-- x ^ i, as a list of coefficients
mono : ℕ → ℕ → ℕ
mono zero = unit
mono (suc i) = shift (mono i)

mono_above : (i j : ℕ) → i < j → mono i j ≡ 0
unfolding mono
mono_above zero zero h = absurd (omega arith)
mono_above zero (suc j) h = refl
mono_above (suc i) zero h = absurd (omega arith)
mono_above (suc i) (suc j) h = mono_above i j (omega arith)

mono_top : (i : ℕ) → mono i i ≡ 1
unfolding mono
mono_top zero = refl
mono_top (suc i) = mono_top i

-- the number that has the coefficients of x
pub coefficient_x : (n : ℕ) → 1 ≤ n → coefficient n (2 ^ n) ≡ shift unit
coefficient_x n some = ap (coefficient n) (once_plus_zero (2 ^ n)) ∙ fun_ext at
  where
    at : (i : ℕ) → coefficient n (1 * 2 ^ n + 0) i ≡ shift unit i
    at zero = coefficient_zero n (1 * 2 ^ n + 0) ∙ mod_low 1 n 0 (pow_pos n)
    at (suc i) = coefficient_suc n (1 * 2 ^ n + 0) i ∙ ap (λ z. coefficient n z i) (shr_high 1 n 0 (pow_pos n)) ∙ ap (λ h. h i) (coefficient_one n some)

module _ (n : ℕ) (mul : ℕ → ℕ → ℕ) (below : IsRing n mul) (e : ℕ) (h : ℕ → ℕ) where
  nothing : (i : ℕ) (a : ℕ) → bit_xor (mul 0 a) (bit_xor 0 (mul 0 (h i))) ≡ 0
  nothing i a = ap₂ bit_xor (zero_mul n mul below a) (ap (bit_xor 0) (zero_mul n mul below (h i)) ∙ xor_self 0) ∙ xor_self 0

  pub reduced_nothing : (m : ℕ) (f : ℕ → ℕ) → reduced mul e h m none f ≡ none
  reduced_nothing zero f = refl
  reduced_nothing (suc m) f = ap (λ p. plus (times mul 0 f) (step mul e h p)) (reduced_nothing m f) ∙ fun_ext at
    where
      at : (i : ℕ) → plus (times mul 0 f) (step mul e h none) i ≡ 0
      at zero = nothing 0 (f 0)
      at (suc i) = nothing (suc i) (f (suc i))

  reduced_one : (m : ℕ) (f : ℕ → ℕ) → AllBelow n f → reduced mul e h (suc m) unit f ≡ f
  reduced_one m f b = ap (λ p. plus (times mul 1 f) (step mul e h p)) (reduced_nothing m f) ∙ fun_ext at
    where
      same : (i : ℕ) → bit_xor (mul 1 (f i)) (bit_xor 0 (mul 0 (h i))) ≡ f i
      same i = ap₂ bit_xor (below.one (f i) (b i)) (ap (bit_xor 0) (zero_mul n mul below (h i)) ∙ xor_self 0) ∙ xor_zero_r (f i)

      at : (i : ℕ) → plus (times mul 1 f) (step mul e h none) i ≡ f i
      at zero = same 0
      at (suc i) = same (suc i)

  -- x times f
  pub reduced_x : (m : ℕ) (f : ℕ → ℕ) → AllBelow n f → reduced mul e h (suc (suc m)) (shift unit) f ≡ step mul e h f
  reduced_x m f b =
      ap (λ p. plus (times mul 0 f) (step mul e h p)) (reduced_one m f b)
      ∙ fun_ext (λ i. ap (λ z. bit_xor z (step mul e h f i)) (zero_mul n mul below (f i)) ∙ xor_zero_l (step mul e h f i))

  pub step_low : (f : ℕ → ℕ) → f e ≡ 0 → step mul e h f ≡ shift f
  step_low f z = fun_ext (λ i. ap (λ y. bit_xor (shift f i) (mul y (h i))) z ∙ ap (bit_xor (shift f i)) (zero_mul n mul below (h i)) ∙ xor_zero_r (shift f i))

-- a modulus of degree 2 or more
module _ (n : ℕ) (mul : ℕ → ℕ → ℕ) (below : IsRing n mul) (d g : ℕ) (monic : IsMonic n (suc (suc d)) g) where
  x_below : 2 ^ n < 2 ^ (n * suc (suc d))
  x_below = pow_below n (n * suc (suc d)) (below_times n d below.some)

  power_x_below : (i : ℕ) → power (product n (suc (suc d)) mul g) (2 ^ n) i < 2 ^ (n * suc (suc d))
  unfolding power
  power_x_below zero = pow_below 0 (n * suc (suc d)) (times_positive n d below.some)
  power_x_below (suc i) = product_below n (suc d) mul g below monic (2 ^ n) (power (product n (suc (suc d)) mul g) (2 ^ n) i)

  -- the coefficients of x ^ i modulo g
  remainder : ℕ → ℕ → ℕ
  remainder i = coefficient n (power (product n (suc (suc d)) mul g) (2 ^ n) i)

  remainder_start : remainder 0 ≡ unit
  unfolding remainder power
  remainder_start = coefficient_one n below.some

  remainder_next : (i : ℕ) → remainder (suc i) ≡ step mul (suc d) (coefficient n g) (remainder i)
  unfolding remainder power
  remainder_next i =
      coefficient-product n (suc d) mul g below monic (2 ^ n) (power (product n (suc (suc d)) mul g) (2 ^ n) i) x_below (power_x_below i)
      ∙ ap (λ f. reduced mul (suc d) (coefficient n g) (suc (suc d)) f (coefficient n (power (product n (suc (suc d)) mul g) (2 ^ n) i))) (coefficient_x n below.some)
      ∙ reduced_x n mul below (suc d) (coefficient n g) d (coefficient n (power (product n (suc (suc d)) mul g) (2 ^ n) i)) (coefficient_below n (power (product n (suc (suc d)) mul g) (2 ^ n) i))

  remainder_mono : (i : ℕ) → i ≤ suc d → remainder i ≡ mono i
  unfolding mono
  remainder_mono zero l = remainder_start
  remainder_mono (suc i) l =
      remainder_next i ∙ ap (step mul (suc d) (coefficient n g)) (remainder_mono i (omega arith))
      ∙ step_low n mul below (suc d) (coefficient n g) (mono i) (mono_above i (suc d) l)

  module _ (k : ℕ) (big : ℕ → ℕ → ℕ) (ring : IsRing k big) (c : ℕ → ℕ) (carried : IsCarried mul k big c) where
    -- the value of g at y
    abbrev modulus_at : ℕ → ℕ
    modulus_at y = value_at big (suc (suc (suc d))) (λ i. c (coefficient n g i)) y

    value_of_remainder : ℕ → ℕ → ℕ
    value_of_remainder y i = value_at big (suc (suc d)) (λ j. c (remainder i j)) y

    -- the coefficients of the factor
    factor : ℕ → List ℕ
    factor zero = []
    factor (suc i) = c (remainder i (suc d)) ∷ factor i

    factor_length : (i : ℕ) → length (factor i) ≡ i
    unfolding factor
    factor_length zero = refl
    factor_length (suc i) = ap suc (factor_length i)

    factor_elements : (i : ℕ) → AllElements k (factor i)
    unfolding factor
    factor_elements zero = tt
    factor_elements (suc i) = (carried.below (remainder i (suc d)), factor_elements i)

    factor_below : (i y : ℕ) → value big (factor i) y < 2 ^ k
    unfolding factor
    factor_below zero y = pow_pos k
    factor_below (suc i) y = xor_lt k _ _ (carried.below (remainder i (suc d))) (ring.closed y (value big (factor i) y))

    -- y ^ i is the value of x ^ i, plus a multiple
    power_split : (y i : ℕ) → power big y i ≡ bit_xor (value_of_remainder y i) (big (modulus_at y) (value big (factor i) y))
    unfolding power factor value_of_remainder
    power_split y zero = sym (ap₂ bit_xor (ap (λ f. value_at big (suc (suc d)) (λ j. c (f j)) y) remainder_start ∙ val_unit mul k big ring c carried y (suc d)) (mul_zero k big ring (modulus_at y)) ∙ xor_zero_r 1)
    power_split y (suc i) =
        ap (big y) (power_split y i)
        ∙ ring.distrib y (value_of_remainder y i) (big (modulus_at y) (value big (factor i) y))
        ∙ sym (ap₂ bit_xor
        (ap (λ f. value_at big (suc (suc d)) (λ j. c (f j)) y) (remainder_next i) ∙ val_step mul k big ring c carried y (suc d) (coefficient n g) monic.leading (remainder i))
        (ring.distrib (modulus_at y) (c (remainder i (suc d))) (big y (value big (factor i) y)) ∙ ap₂ bit_xor (ring.comm (modulus_at y) (c (remainder i (suc d)))) (mul_left_comm k big ring (modulus_at y) y (value big (factor i) y)))
        ∙ joined (big y (value_of_remainder y i)) (big (c (remainder i (suc d))) (modulus_at y)) (big y (big (modulus_at y) (value big (factor i) y))))
      where
        joined : (a q b : ℕ) → bit_xor (bit_xor a q) (bit_xor q b) ≡ bit_xor a b
        joined a q b = xor_assoc a q (bit_xor q b) ∙ ap (bit_xor a) (xor_cancel q b)

    -- where x ^ m is x, the value of x ^ m at y is y
    remainder_same : (y m : ℕ) → y < 2 ^ k → power (product n (suc (suc d)) mul g) (2 ^ n) m ≡ 2 ^ n → value_of_remainder y m ≡ y
    unfolding remainder value_of_remainder
    remainder_same y m hy same =
        ap (λ f. value_at big (suc (suc d)) (λ j. c (f j)) y) (ap (coefficient n) same ∙ coefficient_x n below.some)
        ∙ val_shift mul k big ring c carried y (suc d) unit ∙ ap (big y) (val_unit mul k big ring c carried y d) ∙ mul_one k big ring y hy

    -- a root is its own power where x is
    pub root_same : (s m : ℕ) → s < 2 ^ k → modulus_at s ≡ 0 → power (product n (suc (suc d)) mul g) (2 ^ n) m ≡ 2 ^ n → power big s m ≡ s
    root_same s m hs root same =
        power_split s m ∙ ap₂ bit_xor (remainder_same s m hs same) (ap (λ z. big z (value big (factor m) s)) root ∙ zero_mul k big ring (value big (factor m) s)) ∙ xor_zero_r s

    factor_part : (i m : ℕ) → m ≤ i → AllZero (factor i) → AllZero (factor m)
    unfolding factor
    factor_part zero m le z = let same : 0 ≡ m = omega arith in subst (λ j. AllZero (factor j)) same z
    factor_part (suc i) m le z = elim (eq-or-lt_of_le le) [
      | inl same ↦ subst (λ j. AllZero (factor j)) (sym same) z
      | inr less ↦ factor_part i m (omega arith) z.1
    ]

    module _ (field : HasNoZeroDivisors k big) (room : suc (suc d) ≤ 2 ^ k) (same : power (product n (suc (suc d)) mul g) (2 ^ n) (2 ^ k) ≡ 2 ^ n) where
      factor_zero : (y : ℕ) → y < 2 ^ k → modulus_at y ≢ 0 → value big (factor (2 ^ k)) y ≡ 0
      factor_zero y hy ne = elim (cases_eq (value big (factor (2 ^ k)) y) 0) [
        | inl z ↦ z
        | inr other ↦ absurd (field.nonzero (modulus_at y) (value big (factor (2 ^ k)) y) (value_at_below k big ring (suc (suc (suc d))) (λ i. c (coefficient n g i)) y) (factor_below (2 ^ k) y) ne other
            (sym (xor_cancel y (big (modulus_at y) (value big (factor (2 ^ k)) y)))
            ∙ ap (bit_xor y) (ap (λ z. bit_xor z (big (modulus_at y) (value big (factor (2 ^ k)) y))) (sym (remainder_same y (2 ^ k) hy same)) ∙ sym (power_split y (2 ^ k)) ∙ power_same k big ring field y hy)
            ∙ xor_self y))
      ]

      not_all : AllZero (factor (suc (suc d))) → ⊥
      unfolding factor
      not_all z = differ (sym (ap c (ap (λ f. f (suc d)) (remainder_mono (suc d) (omega arith)) ∙ mono_top (suc d)) ∙ carried.one) ∙ z.0)
        where
          differ : ◌≡◌ {A = ℕ} 1 0 → ⊥
          differ e = omega arith

      -- g has a root
      pub root_found : FoundAt modulus_at (2 ^ k) 0
      root_found = elim (find modulus_at (2 ^ k) 0) [
        | inl w ↦ w
        | inr missing ↦ absurd (not_all (factor_part (2 ^ k) (suc (suc d)) room
            ((HasFewRoots-from_field k big ring field).zeros (factor (2 ^ k)) (rw (factor_length (2 ^ k)) (omega arith)) (factor_elements (2 ^ k)) (λ y hy. factor_zero y hy (missing y hy)))))
      ]

-- a modulus of degree 1
module _ (n : ℕ) (mul : ℕ → ℕ → ℕ) (g : ℕ) (monic : IsMonic n 1 g) (k : ℕ) (big : ℕ → ℕ → ℕ) (ring : IsRing k big) (c : ℕ → ℕ) (carried : IsCarried mul k big c) where
  line_at : (y : ℕ) → y < 2 ^ k → value_at big 2 (λ i. c (coefficient n g i)) y ≡ bit_xor (c (coefficient n g 0)) y
  unfolding value_at
  line_at y hy =
      val_open mul k big ring c carried y 1 (coefficient n g)
      ∙ ap (bit_xor (c (coefficient n g 0))) (ap (big y) (val_open mul k big ring c carried y 0 (rest (coefficient n g)) ∙ ap₂ bit_xor (ap c monic.leading ∙ carried.one) (mul_zero k big ring y) ∙ xor_zero_r 1) ∙ mul_one k big ring y hy)

  pub line_root : FoundAt (λ y. value_at big 2 (λ i. c (coefficient n g i)) y) (2 ^ k) 0
  line_root = record {
    at = c (coefficient n g 0);
    below = carried.below (coefficient n g 0);
    is = line_at (c (coefficient n g 0)) (carried.below (coefficient n g 0)) ∙ xor_self (c (coefficient n g 0));
  }

  pub line_root_is : (y : ℕ) → y < 2 ^ k → value_at big 2 (λ i. c (coefficient n g i)) y ≡ 0 → y ≡ c (coefficient n g 0)
  line_root_is y hy z = sym (xor_same (c (coefficient n g 0)) y (sym (line_at y hy) ∙ z))
