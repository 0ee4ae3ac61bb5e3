-- Division of polynomials over a field, and quotients without zero divisors.
use Rattle.std.proofs.Common.{◌≡◌, ℕ, zero, suc, refl, sym, ◌∙◌, ap, ap₂, ◌+◌, inl, inr, arith, pow_pos, eq-or-lt_of_le, zero-add}
use Rattle.std.specs.Prelude.{bit_xor}
use Rattle.std.specs.Int.Bits.{xor_self, xor_lt, xor_zero_l, xor_zero_r}
use Rattle.std.proofs.Math.Nat.{suc-add}
use Rattle.lists.specs.laws.XorLaws.{xor_drop_pair}
use mathlib.Core.Path.{fun_ext}
use Rattle.gf_field.specs.Ring.{IsRing}
use Rattle.gf_field.specs.laws.FieldLaws.{HasInverse}
use Rattle.gf_field.specs.Polynomial.{convolution}
use Rattle.gf_field.specs.Quotient.{none, plus, times, shift, rest}
use Rattle.gf_field.specs.laws.QuotientLaws.{EndsAt, AllBelow}
use Rattle.gf_field.specs.laws.RingLaws.{mul_zero, mul_one}
use Rattle.gf_field.specs.laws.ProductLaws.{convolution_open, convolution_none}

-- c and then f
abbrev pub joined : ℕ → (ℕ → ℕ) → ℕ → ℕ
joined c f zero = c
joined c f (suc i) = f i

module _ (n : ℕ) (mul : ℕ → ℕ → ℕ) (ring : IsRing n mul) where
  convolution_zero : (f : ℕ → ℕ) → convolution mul none f ≡ none
  convolution_zero f = fun_ext (convolution_none n mul ring f)

  -- the highest coefficient of a product
  pub convolution_top : (i j : ℕ) (f g : ℕ → ℕ) → EndsAt (suc i) f → EndsAt (suc j) g → convolution mul f g (i + j) ≡ mul (f i) (g j)
  convolution_top zero j f g ef eg =
      ap (λ h. h (0 + j)) (convolution_open mul f g)
      ∙ ap (λ h. plus (times mul (f 0) g) (shift (convolution mul h g)) (0 + j)) (fun_ext (λ i. ef (suc i) (omega arith)))
      ∙ ap (λ h. plus (times mul (f 0) g) (shift h) (0 + j)) (convolution_zero g)
      ∙ at (0 + j) ∙ ap (λ x. mul (f 0) (g x)) (zero-add j)
    where
      at : (x : ℕ) → plus (times mul (f 0) g) (shift none) x ≡ mul (f 0) (g x)
      at zero = xor_zero_r (mul (f 0) (g 0))
      at (suc x) = xor_zero_r (mul (f 0) (g (suc x)))
  convolution_top (suc i) j f g ef eg =
      ap (convolution mul f g) (suc-add i j)
      ∙ ap (λ x. bit_xor x (convolution mul (rest f) g (i + j))) (ap (mul (f 0)) (eg (suc (i + j)) (omega arith)) ∙ mul_zero n mul ring (f 0))
      ∙ xor_zero_l (convolution mul (rest f) g (i + j))
      ∙ convolution_top i j (rest f) g (λ x h. ef (suc x) (omega arith)) eg

  pub convolution_ends : (i j : ℕ) (f g : ℕ → ℕ) → EndsAt i f → EndsAt (suc j) g → EndsAt (i + j) (convolution mul f g)
  convolution_ends zero j f g ef eg x h = ap (λ p. convolution mul p g x) (fun_ext (λ i. ef i (omega arith))) ∙ convolution_none n mul ring g x
  convolution_ends (suc i) j f g ef eg zero h = absurd (omega arith)
  convolution_ends (suc i) j f g ef eg (suc x) h =
      ap₂ bit_xor (ap (mul (f 0)) (eg (suc x) (omega arith)) ∙ mul_zero n mul ring (f 0)) (convolution_ends i j (rest f) g (λ y l. ef (suc y) (omega arith)) eg x (omega arith)) ∙ xor_self 0

  pub convolution_below : (f g : ℕ → ℕ) → AllBelow n (convolution mul f g)
  convolution_below f g zero = ring.closed (f 0) (g 0)
  convolution_below f g (suc i) = xor_lt n _ _ (ring.closed (f 0) (g (suc i))) (convolution_below (rest f) g i)

  -- f is a * u + r, where r has lower degree than u
  pub record IsDivided (u : ℕ → ℕ) (m l : ℕ) (f : ℕ → ℕ) : Type 0 where
    pub factor : ℕ → ℕ
    pub remainder : ℕ → ℕ
    pub factor_below : AllBelow n factor
    pub factor_ends : EndsAt l factor
    pub remainder_below : AllBelow n remainder
    pub remainder_ends : EndsAt m remainder
    pub is : f ≡ plus (convolution mul factor u) remainder

  module _ (u : ℕ → ℕ) (m : ℕ) (bu : AllBelow n u) (eu : EndsAt (suc (suc m)) u) (v : HasInverse n mul (u (suc m))) where
    pub divide : (l : ℕ) (f : ℕ → ℕ) → AllBelow n f → EndsAt (suc m + l) f → IsDivided u (suc m) l f
    divide zero f bf ef = record {
      factor = none;
      remainder = f;
      factor_below = λ i. pow_pos n;
      factor_ends = λ i h. refl;
      remainder_below = bf;
      remainder_ends = λ i h. ef i (omega arith);
      is = sym (ap (λ g. plus g f) (convolution_zero u) ∙ fun_ext (λ i. xor_zero_l (f i)));
    }
    divide (suc l) f bf ef = more (divide l (rest f) (λ i. bf (suc i)) (λ i h. ef (suc i) (omega arith)))
      where
        more : IsDivided u (suc m) l (rest f) → IsDivided u (suc m) (suc l) f
        more d = record {
          factor = joined c d.factor;
          remainder = left;
          factor_below = factor_low;
          factor_ends = factor_last;
          remainder_below = left_low;
          remainder_ends = left_last;
          is = sym (ap (λ g. plus g left) (convolution_open mul (joined c d.factor) u) ∙ fun_ext whole);
        }
          where
            c : ℕ
            c = mul (d.remainder m) v.inverse

            start : ℕ → ℕ
            start = joined (f 0) none

            left : ℕ → ℕ
            left = plus (times mul c u) (plus (shift d.remainder) start)

            cancels : mul c (u (suc m)) ≡ d.remainder m
            cancels = ring.assoc (d.remainder m) v.inverse (u (suc m)) ∙ ap (mul (d.remainder m)) (ring.comm v.inverse (u (suc m)) ∙ v.is) ∙ mul_one n mul ring (d.remainder m) (d.remainder_below m)

            factor_low : AllBelow n (joined c d.factor)
            factor_low zero = ring.closed (d.remainder m) v.inverse
            factor_low (suc i) = d.factor_below i

            factor_last : EndsAt (suc l) (joined c d.factor)
            factor_last zero h = absurd (omega arith)
            factor_last (suc i) h = d.factor_ends i (omega arith)

            left_low : AllBelow n left
            left_low zero = xor_lt n _ _ (ring.closed c (u 0)) (xor_lt n _ _ (pow_pos n) (bf 0))
            left_low (suc i) = xor_lt n _ _ (ring.closed c (u (suc i))) (xor_lt n _ _ (d.remainder_below i) (pow_pos n))

            left_last : EndsAt (suc m) left
            left_last zero h = absurd (omega arith)
            left_last (suc i) h = ap (bit_xor (mul c (u (suc i)))) (xor_zero_r (d.remainder i)) ∙ elim (eq-or-lt_of_le h) [
              | inl e ↦ let k : m ≡ i = omega arith in rw (← k) (ap (λ x. bit_xor x (d.remainder m)) cancels ∙ xor_self (d.remainder m))
              | inr less ↦ ap₂ bit_xor (ap (mul c) (eu (suc i) less) ∙ mul_zero n mul ring c) (d.remainder_ends i (omega arith)) ∙ xor_self 0
            ]

            whole : (i : ℕ) → plus (plus (times mul c u) (shift (convolution mul d.factor u))) left i ≡ f i
            whole zero = xor_drop_pair (mul c (u 0)) 0 (bit_xor 0 (f 0)) ∙ xor_zero_l (bit_xor 0 (f 0)) ∙ xor_zero_l (f 0)
            whole (suc i) = xor_drop_pair (mul c (u (suc i))) (convolution mul d.factor u i) (bit_xor (d.remainder i) 0) ∙ ap (bit_xor (convolution mul d.factor u i)) (xor_zero_r (d.remainder i)) ∙ sym (ap (λ g. g i) d.is)
