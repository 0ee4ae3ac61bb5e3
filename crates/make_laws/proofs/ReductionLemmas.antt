-- Remainders by a monic polynomial, coefficient by coefficient, as sums over the powers of the indeterminate.
use Rattle.std.proofs.Common.{◌≡◌, ℕ, zero, suc, refl, sym, ◌∙◌, ap, ap₂, ◌≤◌, ◌+◌, ◌-◌, arith}
use Rattle.std.specs.Prelude.{bit_xor}
use Rattle.std.specs.Int.Bits.{xor_zero_l}
use Rattle.std.proofs.Math.Nat.{suc-add}
use Rattle.gf_field.proofs.SharedLemmas.{sum_open, same_sum}
use mathlib.Core.Path.{fun_ext}
use Rattle.gf_field.specs.Ring.{IsRing}
use Rattle.gf_field.specs.Polynomial.{convolution, sum_of_first}
use Rattle.gf_field.specs.Quotient.{none, unit, plus, times, shift, rest, step, reduced}
use Rattle.gf_field.specs.laws.RingLaws.{zero_mul, mul_zero}
use Rattle.gf_field.specs.laws.QuotientLaws.{EndsAt, AllBelow, step_plus, reduced_xor, quotient_one}
use Rattle.gf_field.specs.laws.ProductLaws.{convolution_open, convolution_none}

-- f after d steps
unfoldable pub stepped : (ℕ → ℕ → ℕ) → ℕ → (ℕ → ℕ) → ℕ → (ℕ → ℕ) → ℕ → ℕ
stepped mul e g zero f = f
stepped mul e g (suc d) f = step mul e g (stepped mul e g d f)

module _ (n : ℕ) (mul : ℕ → ℕ → ℕ) (ring : IsRing n mul) (e : ℕ) (g : ℕ → ℕ) where
  none_times : (f : ℕ → ℕ) → times mul 0 f ≡ none
  none_times f = fun_ext (λ i. zero_mul n mul ring (f i))

  plus_none : (f : ℕ → ℕ) → plus none f ≡ f
  plus_none f = fun_ext (λ i. xor_zero_l (f i))

  -- a factor of all coefficients
  step_times : (a : ℕ) (f : ℕ → ℕ) → step mul e g (times mul a f) ≡ times mul a (step mul e g f)
  step_times a f = fun_ext at
    where
      at : (i : ℕ) → step mul e g (times mul a f) i ≡ times mul a (step mul e g f) i
      at zero = ap₂ bit_xor (sym (mul_zero n mul ring a)) (ring.assoc a (f e) (g 0)) ∙ sym (ring.distrib a 0 (mul (f e) (g 0)))
      at (suc i) = ap (bit_xor (mul a (f i))) (ring.assoc a (f e) (g (suc i))) ∙ sym (ring.distrib a (f i) (mul (f e) (g (suc i))))

  pub step_none : step mul e g none ≡ none
  step_none = ap (step mul e g) (sym (none_times none)) ∙ step_times 0 none ∙ none_times (step mul e g none)

  -- no coefficients
  pub reduced_nothing : (m : ℕ) (u f : ℕ → ℕ) → ((i : ℕ) → u i ≡ 0) → reduced mul e g m u f ≡ none
  reduced_nothing zero u f z = refl
  reduced_nothing (suc m) u f z =
      ap₂ plus (ap (λ a. times mul a f) (z 0) ∙ none_times f) (ap (step mul e g) (reduced_nothing m (rest u) f (λ i. z (suc i))) ∙ step_none) ∙ plus_none none

  -- coefficients that are 0 do not count
  pub reduced_long : (m l : ℕ) (u f : ℕ → ℕ) → EndsAt m u → m ≤ l → reduced mul e g l u f ≡ reduced mul e g m u f
  reduced_long zero l u f ends le = reduced_nothing l u f (λ i. ends i (omega arith))
  reduced_long (suc m) zero u f ends le = absurd (omega arith)
  reduced_long (suc m) (suc l) u f ends le = ap (λ p. plus (times mul (u 0) f) (step mul e g p)) (reduced_long m l (rest u) f (λ i h. ends (suc i) (omega arith)) (omega arith))

  -- a factor of all coefficients
  pub reduced_scaled : (m : ℕ) (a : ℕ) (u f : ℕ → ℕ) → reduced mul e g m (times mul a u) f ≡ times mul a (reduced mul e g m u f)
  reduced_scaled zero a u f = fun_ext (λ i. sym (mul_zero n mul ring a))
  reduced_scaled (suc m) a u f =
      ap₂ plus (fun_ext (λ i. ring.assoc a (u 0) (f i))) (ap (step mul e g) (reduced_scaled m a (rest u) f) ∙ step_times a (reduced mul e g m (rest u) f))
      ∙ fun_ext (λ i. sym (ring.distrib a (mul (u 0) (f i)) (step mul e g (reduced mul e g m (rest u) f) i)))

  -- one place up
  pub reduced_shift : (m : ℕ) (u f : ℕ → ℕ) → reduced mul e g (suc m) (shift u) f ≡ step mul e g (reduced mul e g m u f)
  reduced_shift m u f = ap (λ p. plus p (step mul e g (reduced mul e g m u f))) (none_times f) ∙ plus_none (step mul e g (reduced mul e g m u f))

  -- a product of polynomials multiplies by one factor after the other
  pub reduced_convolution : (m l : ℕ) (u v f : ℕ → ℕ) → EndsAt m u → EndsAt l v → reduced mul e g (m + l) (convolution mul u v) f ≡ reduced mul e g m u (reduced mul e g l v f)
  reduced_convolution zero l u v f eu ev =
      reduced_nothing (0 + l) (convolution mul u v) f (λ i. ap (λ w. convolution mul w v i) (fun_ext (λ j. eu j (omega arith))) ∙ convolution_none n mul ring v i)
  reduced_convolution (suc m) l u v f eu ev =
      ap (λ x. reduced mul e g x (convolution mul u v) f) (suc-add m l)
      ∙ ap (λ w. reduced mul e g (suc (m + l)) w f) (convolution_open mul u v)
      ∙ reduced_xor n mul ring e g (suc (m + l)) (times mul (u 0) v) (shift (convolution mul (rest u) v)) f
      ∙ ap₂ plus
      (reduced_scaled (suc (m + l)) (u 0) v f ∙ ap (times mul (u 0)) (reduced_long l (suc (m + l)) v f ev (omega arith)))
      (reduced_shift (m + l) (convolution mul (rest u) v) f ∙ ap (step mul e g) (reduced_convolution m l (rest u) v f (λ i h. eu (suc i) (omega arith)) ev))

  -- a step of a sum
  step_sum : (m : ℕ) (h : ℕ → ℕ → ℕ) (i : ℕ) → step mul e g (λ j. sum_of_first m (λ d. h d j)) i ≡ sum_of_first m (λ d. step mul e g (h d) i)
  step_sum zero h i = ap (λ p. p i) step_none
  step_sum (suc m) h i =
      ap (λ p. p i) (step_plus n mul ring e g (λ j. sum_of_first m (λ d. h d j)) (h m)) ∙ ap (λ x. bit_xor x (step mul e g (h m) i)) (step_sum m h i)

  -- each coefficient times the indeterminate to its place
  pub reduced_sum : (m : ℕ) (u f : ℕ → ℕ) (i : ℕ) → reduced mul e g m u f i ≡ sum_of_first m (λ d. mul (u d) (stepped mul e g d f i))
  unfolding stepped
  reduced_sum zero u f i = refl
  reduced_sum (suc m) u f i =
      ap (bit_xor (mul (u 0) (f i)))
      (ap (λ p. step mul e g p i) (fun_ext (λ j. reduced_sum m (rest u) f j))
      ∙ step_sum m (λ d j. mul (u (suc d)) (stepped mul e g d f j)) i
      ∙ same_sum m (λ d. step mul e g (λ j. mul (u (suc d)) (stepped mul e g d f j)) i) (λ d. mul (u (suc d)) (step mul e g (stepped mul e g d f) i))
      (λ d l. ap (λ p. p i) (step_times (u (suc d)) (stepped mul e g d f))))
      ∙ sym (sum_open m (λ d. mul (u d) (stepped mul e g d f i)))

  module _ (monic : g (suc e) ≡ 1) (last : EndsAt (suc (suc e)) g) where
    -- the coefficients of a product
    pub product_sum_of_powers : (u v : ℕ → ℕ) → EndsAt (suc e) u → AllBelow n v → EndsAt (suc e) v → (i : ℕ) → reduced mul e g (suc e) u v i ≡ sum_of_first (suc e + suc e) (λ d. mul (convolution mul u v d) (stepped mul e g d unit i))
    product_sum_of_powers u v eu bv ev i =
        ap (λ p. p i) (ap (reduced mul e g (suc e) u) (sym (quotient_one n mul ring e g monic last v bv ev)) ∙ sym (reduced_convolution (suc e) (suc e) u v unit eu ev))
        ∙ reduced_sum (suc e + suc e) (convolution mul u v) unit i
