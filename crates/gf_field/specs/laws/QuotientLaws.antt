-- The product modulo a monic polynomial is that of a commutative ring: on functions.
use Rattle.std.proofs.Common.{◌≡◌, ℕ, zero, suc, refl, sym, ◌∙◌, ap, ap₂, ◌<◌, ◌≤◌, ◌^◌, arith, pow_pos, eq-or-lt_of_le, inl, inr}
use Rattle.std.specs.Prelude.{bit_xor}
use Rattle.std.specs.Int.Bits.{xor_self, xor_zero_l, xor_zero_r, xor_lt}
use Rattle.lists.specs.laws.XorLaws.{xor_cross}
use mathlib.Core.Path.{fun_ext}
use Rattle.gf_field.specs.Ring.{IsRing}
use Rattle.gf_field.specs.Quotient.{none, unit, plus, times, shift, rest, step, reduced}
use Rattle.gf_field.specs.laws.RingLaws.{distrib_left, mul_zero, zero_mul, mul_one}

plus_cross : (a b c d : ℕ → ℕ) → plus (plus a b) (plus c d) ≡ plus (plus a c) (plus b d)
plus_cross a b c d = fun_ext (λ i. xor_cross (a i) (b i) (c i) (d i))

pub shift_plus : (f h : ℕ → ℕ) → shift (plus f h) ≡ plus (shift f) (shift h)
shift_plus f h = fun_ext (at f h)
  where
    at : (f h : ℕ → ℕ) (i : ℕ) → shift (plus f h) i ≡ plus (shift f) (shift h) i
    at f h zero = refl
    at f h (suc i) = refl

-- no coefficient from place m on
abbrev pub EndsAt : ℕ → (ℕ → ℕ) → Type 0
EndsAt m f = (i : ℕ) → m ≤ i → f i ≡ 0

abbrev pub AllBelow : ℕ → (ℕ → ℕ) → Type 0
AllBelow n f = (i : ℕ) → f i < 2 ^ n

module _ (n : ℕ) (mul : ℕ → ℕ → ℕ) (ring : IsRing n mul) where
  times_plus : (a : ℕ) (f h : ℕ → ℕ) → times mul a (plus f h) ≡ plus (times mul a f) (times mul a h)
  times_plus a f h = fun_ext (λ i. ring.distrib a (f i) (h i))

  plus_times : (a b : ℕ) (f : ℕ → ℕ) → times mul (bit_xor a b) f ≡ plus (times mul a f) (times mul b f)
  plus_times a b f = fun_ext (λ i. distrib_left n mul ring a b (f i))

  times_times : (a b : ℕ) (f : ℕ → ℕ) → times mul (mul a b) f ≡ times mul a (times mul b f)
  times_times a b f = fun_ext (λ i. ring.assoc a b (f i))

  times_turned : (a b : ℕ) (f : ℕ → ℕ) → times mul a (times mul b f) ≡ times mul b (times mul a f)
  times_turned a b f = sym (times_times a b f) ∙ ap (λ x. times mul x f) (ring.comm a b) ∙ times_times b a f

  times_none : (a : ℕ) → times mul a none ≡ none
  times_none a = fun_ext (λ i. mul_zero n mul ring a)

  none_times : (f : ℕ → ℕ) → times mul 0 f ≡ none
  none_times f = fun_ext (λ i. zero_mul n mul ring (f i))

  shift_times : (a : ℕ) (f : ℕ → ℕ) → shift (times mul a f) ≡ times mul a (shift f)
  shift_times a f = fun_ext (at a f)
    where
      at : (a : ℕ) (f : ℕ → ℕ) (i : ℕ) → shift (times mul a f) i ≡ times mul a (shift f) i
      at a f zero = sym (mul_zero n mul ring a)
      at a f (suc i) = refl

  module _ (e : ℕ) (g : ℕ → ℕ) where
    pub step_plus : (f h : ℕ → ℕ) → step mul e g (plus f h) ≡ plus (step mul e g f) (step mul e g h)
    step_plus f h =
        ap₂ plus (shift_plus f h) (plus_times (f e) (h e) g)
        ∙ plus_cross (shift f) (shift h) (times mul (f e) g) (times mul (h e) g)

    step_times : (a : ℕ) (f : ℕ → ℕ) → step mul e g (times mul a f) ≡ times mul a (step mul e g f)
    step_times a f =
        ap₂ plus (shift_times a f) (times_times a (f e) g)
        ∙ sym (times_plus a (shift f) (times mul (f e) g))

    step_none : step mul e g none ≡ none
    step_none = ap (step mul e g) (sym (times_none 0)) ∙ step_times 0 none ∙ none_times (step mul e g none)

    reduced_plus : (m : ℕ) (u f h : ℕ → ℕ) → reduced mul e g m u (plus f h) ≡ plus (reduced mul e g m u f) (reduced mul e g m u h)
    reduced_plus zero u f h = fun_ext (λ i. sym (xor_self 0))
    reduced_plus (suc m) u f h =
        ap₂ plus (times_plus (u 0) f h) (ap (step mul e g) (reduced_plus m (rest u) f h) ∙ step_plus (reduced mul e g m (rest u) f) (reduced mul e g m (rest u) h))
        ∙ plus_cross (times mul (u 0) f) (times mul (u 0) h) (step mul e g (reduced mul e g m (rest u) f)) (step mul e g (reduced mul e g m (rest u) h))

    reduced_times : (m : ℕ) (u : ℕ → ℕ) (a : ℕ) (f : ℕ → ℕ) → reduced mul e g m u (times mul a f) ≡ times mul a (reduced mul e g m u f)
    reduced_times zero u a f = sym (times_none a)
    reduced_times (suc m) u a f =
        ap₂ plus (times_turned (u 0) a f) (ap (step mul e g) (reduced_times m (rest u) a f) ∙ step_times a (reduced mul e g m (rest u) f))
        ∙ sym (times_plus a (times mul (u 0) f) (step mul e g (reduced mul e g m (rest u) f)))

    reduced_step : (m : ℕ) (u f : ℕ → ℕ) → reduced mul e g m u (step mul e g f) ≡ step mul e g (reduced mul e g m u f)
    reduced_step zero u f = sym step_none
    reduced_step (suc m) u f =
        ap₂ plus (sym (step_times (u 0) f)) (ap (step mul e g) (reduced_step m (rest u) f))
        ∙ sym (step_plus (times mul (u 0) f) (step mul e g (reduced mul e g m (rest u) f)))

    reduced_none : (m : ℕ) (u : ℕ → ℕ) → reduced mul e g m u none ≡ none
    reduced_none m u = ap (reduced mul e g m u) (sym (times_none 0)) ∙ reduced_times m u 0 none ∙ none_times (reduced mul e g m u none)

    -- two factors change places
    reduced_turned : (m : ℕ) (u : ℕ → ℕ) (l : ℕ) (v f : ℕ → ℕ) → reduced mul e g m u (reduced mul e g l v f) ≡ reduced mul e g l v (reduced mul e g m u f)
    reduced_turned m u zero v f = reduced_none m u
    reduced_turned m u (suc l) v f =
        reduced_plus m u (times mul (v 0) f) (step mul e g (reduced mul e g l (rest v) f))
        ∙ ap₂ plus (reduced_times m u (v 0) f)
        (reduced_step m u (reduced mul e g l (rest v) f) ∙ ap (step mul e g) (reduced_turned m u l (rest v) f))

    pub reduced_xor : (m : ℕ) (u v f : ℕ → ℕ) → reduced mul e g m (plus u v) f ≡ plus (reduced mul e g m u f) (reduced mul e g m v f)
    reduced_xor zero u v f = fun_ext (λ i. sym (xor_self 0))
    reduced_xor (suc m) u v f =
        ap₂ plus (plus_times (u 0) (v 0) f) (ap (step mul e g) (reduced_xor m (rest u) (rest v) f) ∙ step_plus (reduced mul e g m (rest u) f) (reduced mul e g m (rest v) f))
        ∙ plus_cross (times mul (u 0) f) (times mul (v 0) f) (step mul e g (reduced mul e g m (rest u) f)) (step mul e g (reduced mul e g m (rest v) f))

    -- 1 is neutral on the right
    reduced_unit : (m : ℕ) (u : ℕ → ℕ) → m ≤ suc e → AllBelow n u → EndsAt m u → reduced mul e g m u unit ≡ u
    reduced_unit zero u le below ends = fun_ext (λ i. sym (ends i (omega arith)))
    reduced_unit (suc m) u le below ends =
        ap (λ f. plus (times mul (u 0) unit) (step mul e g f)) (reduced_unit m (rest u) (omega arith) (λ i. below (suc i)) (λ i h. ends (suc i) (omega arith)))
        ∙ ap (λ a. plus (times mul (u 0) unit) (plus (shift (rest u)) (times mul a g))) (ends (suc e) le)
        ∙ ap (λ f. plus (times mul (u 0) unit) (plus (shift (rest u)) f)) (none_times g)
        ∙ fun_ext (at u below)
      where
        at : (u : ℕ → ℕ) → AllBelow n u → (i : ℕ) → plus (times mul (u 0) unit) (plus (shift (rest u)) none) i ≡ u i
        at u below zero = ap (bit_xor (mul (u 0) 1)) (xor_self 0) ∙ xor_zero_r (mul (u 0) 1) ∙ mul_one n mul ring (u 0) (below 0)
        at u below (suc i) = ap₂ bit_xor (mul_zero n mul ring (u 0)) (xor_zero_r (u (suc i))) ∙ xor_zero_l (u (suc i))

    pub reduced_below : (m : ℕ) (u f : ℕ → ℕ) → AllBelow n f → AllBelow n (reduced mul e g m u f)
    reduced_below zero u f h i = pow_pos n
    reduced_below (suc m) u f h zero = xor_lt n _ _ (ring.closed (u 0) (f 0)) (xor_lt n _ _ (pow_pos n) (ring.closed (reduced mul e g m (rest u) f e) (g 0)))
    reduced_below (suc m) u f h (suc i) = xor_lt n _ _ (ring.closed (u 0) (f (suc i))) (xor_lt n _ _ (reduced_below m (rest u) f h i) (ring.closed (reduced mul e g m (rest u) f e) (g (suc i))))

    module _ (monic : g (suc e) ≡ 1) (last : EndsAt (suc (suc e)) g) where
      pub step_ends : (f : ℕ → ℕ) → AllBelow n f → EndsAt (suc e) f → EndsAt (suc e) (step mul e g f)
      step_ends f below ends zero h = absurd (omega arith)
      step_ends f below ends (suc i) h =
          elim (eq-or-lt_of_le h) [
            | inl same ↦
                let k : e ≡ i = omega arith in
                rw (← k, monic) (ap (bit_xor (f e)) (mul_one n mul ring (f e) (below e)) ∙ xor_self (f e))
            | inr less ↦ ap₂ bit_xor (ends i (omega arith)) (ap (mul (f e)) (last (suc i) less) ∙ mul_zero n mul ring (f e)) ∙ xor_self 0
          ]

      pub reduced_ends : (m : ℕ) (u f : ℕ → ℕ) → AllBelow n f → EndsAt (suc e) f → EndsAt (suc e) (reduced mul e g m u f)
      reduced_ends zero u f below ends i h = refl
      reduced_ends (suc m) u f below ends i h =
          ap₂ bit_xor (ap (mul (u 0)) (ends i h) ∙ mul_zero n mul ring (u 0))
          (step_ends (reduced mul e g m (rest u) f) (reduced_below m (rest u) f below) (reduced_ends m (rest u) f below ends) i h)
          ∙ xor_self 0

      module _ (u v : ℕ → ℕ) (bu : AllBelow n u) (eu : EndsAt (suc e) u) (bv : AllBelow n v) (ev : EndsAt (suc e) v) where
        pub quotient_comm : reduced mul e g (suc e) u v ≡ reduced mul e g (suc e) v u
        quotient_comm =
            ap (reduced mul e g (suc e) u) (sym (reduced_unit (suc e) v (omega arith) bv ev))
            ∙ reduced_turned (suc e) u (suc e) v unit
            ∙ ap (reduced mul e g (suc e) v) (reduced_unit (suc e) u (omega arith) bu eu)

        pub quotient_below : AllBelow n (reduced mul e g (suc e) u v)
        quotient_below = reduced_below (suc e) u v bv

        pub quotient_ends : EndsAt (suc e) (reduced mul e g (suc e) u v)
        quotient_ends = reduced_ends (suc e) u v bv ev

      pub quotient_assoc : (u v w : ℕ → ℕ) → AllBelow n u → EndsAt (suc e) u → AllBelow n v → EndsAt (suc e) v → AllBelow n w → EndsAt (suc e) w
          → reduced mul e g (suc e) (reduced mul e g (suc e) u v) w ≡ reduced mul e g (suc e) u (reduced mul e g (suc e) v w)
      quotient_assoc u v w bu eu bv ev bw ew =
          quotient_comm (reduced mul e g (suc e) u v) w (quotient_below u v bu eu bv ev) (quotient_ends u v bu eu bv ev) bw ew
          ∙ reduced_turned (suc e) w (suc e) u v
          ∙ ap (reduced mul e g (suc e) u) (quotient_comm w v bw ew bv ev)

      pub quotient_distrib : (u v w : ℕ → ℕ) → reduced mul e g (suc e) u (plus v w) ≡ plus (reduced mul e g (suc e) u v) (reduced mul e g (suc e) u w)
      quotient_distrib u v w = reduced_plus (suc e) u v w

      pub quotient_one : (u : ℕ → ℕ) → AllBelow n u → EndsAt (suc e) u → reduced mul e g (suc e) u unit ≡ u
      quotient_one u bu eu = reduced_unit (suc e) u (omega arith) bu eu
