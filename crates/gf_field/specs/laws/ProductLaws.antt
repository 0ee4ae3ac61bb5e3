-- The product of a quotient is the one remainder of the product of polynomials.
use Rattle.std.proofs.Common.{◌≡◌, ℕ, zero, suc, refl, sym, ◌∙◌, ap, ap₂, ◌<◌, ◌^◌, ◌+◌, ◌*◌, arith, pow_pos, le_trans, pow_mono, lt_of_lt_of_le, mul-le-mul_right, subst}
use Rattle.std.specs.Prelude.{bit_xor}
use Rattle.std.specs.Int.Bits.{xor_assoc, xor_comm, xor_self, xor_zero_l, xor_zero_r, xor_lt}
use Rattle.lists.specs.laws.XorLaws.{xor_same, xor_cross}
use mathlib.Core.Path.{fun_ext}
use Rattle.gf_field.specs.Ring.{IsRing}
use Rattle.gf_field.specs.Polynomial.{coefficient, convolution, IsProductModulo, IsMonic}
use Rattle.gf_field.specs.Quotient.{none, plus, times, shift, rest, step, reduced, packed, product, HasOnlyProduct}
use Rattle.gf_field.specs.laws.ConvolutionLaws.{convolution_xor_left}
use Rattle.gf_field.specs.laws.QuotientLaws.{EndsAt, AllBelow, reduced_below, reduced_ends, shift_plus}
use Rattle.gf_field.specs.laws.RingLaws.{zero_mul, mul_zero, mul_one}
use Rattle.gf_field.specs.laws.PackingLaws.{self_below, packed_below, coefficient-packed, packed-coefficient, coefficient_below, coefficient_ends}
use Rattle.gf_field.specs.laws.QuotientRingLaws.{product_below, coefficient-product}

-- the coefficients of the polynomial by which g is multiplied
abbrev pub taken : (ℕ → ℕ → ℕ) → ℕ → (ℕ → ℕ) → ℕ → (ℕ → ℕ) → (ℕ → ℕ) → ℕ → ℕ
taken mul e g zero u f i = 0
taken mul e g (suc m) u f zero = reduced mul e g m (rest u) f e
taken mul e g (suc m) u f (suc i) = taken mul e g m (rest u) f i

taken_ends : (mul : ℕ → ℕ → ℕ) (e : ℕ) (g : ℕ → ℕ) (m : ℕ) (u f : ℕ → ℕ) → EndsAt m (taken mul e g m u f)
taken_ends mul e g zero u f i h = refl
taken_ends mul e g (suc m) u f zero h = absurd (omega arith)
taken_ends mul e g (suc m) u f (suc i) h = taken_ends mul e g m (rest u) f i (omega arith)

plus_cancel : (a c r : ℕ → ℕ) → plus (plus a c) (plus a r) ≡ plus c r
plus_cancel a c r = fun_ext (λ i. xor_cross (a i) (c i) (a i) (r i) ∙ ap (λ x. bit_xor x (bit_xor (c i) (r i))) (xor_self (a i)) ∙ xor_zero_l (bit_xor (c i) (r i)))

pub plus_assoc : (a b c : ℕ → ℕ) → plus (plus a b) c ≡ plus a (plus b c)
plus_assoc a b c = fun_ext (λ i. xor_assoc (a i) (b i) (c i))

pub plus_comm : (a b : ℕ → ℕ) → plus a b ≡ plus b a
plus_comm a b = fun_ext (λ i. xor_comm (a i) (b i))

pub convolution_open : (mul : ℕ → ℕ → ℕ) (f g : ℕ → ℕ) → convolution mul f g ≡ plus (times mul (f 0) g) (shift (convolution mul (rest f) g))
convolution_open mul f g = fun_ext (at mul f g)
  where
    at : (mul : ℕ → ℕ → ℕ) (f g : ℕ → ℕ) (i : ℕ) → convolution mul f g i ≡ plus (times mul (f 0) g) (shift (convolution mul (rest f) g)) i
    at mul f g zero = sym (xor_zero_r (mul (f 0) (g 0)))
    at mul f g (suc i) = refl

module _ (n : ℕ) (mul : ℕ → ℕ → ℕ) (ring : IsRing n mul) where
  pub convolution_none : (g : ℕ → ℕ) (i : ℕ) → convolution mul none g i ≡ 0
  convolution_none g zero = zero_mul n mul ring (g 0)
  convolution_none g (suc i) = ap₂ bit_xor (zero_mul n mul ring (g (suc i))) (convolution_none g i) ∙ xor_self 0

  taken_below : (e : ℕ) (g : ℕ → ℕ) (m : ℕ) (u f : ℕ → ℕ) → AllBelow n f → AllBelow n (taken mul e g m u f)
  taken_below e g zero u f h i = pow_pos n
  taken_below e g (suc m) u f h zero = reduced_below n mul ring e g m (rest u) f h e
  taken_below e g (suc m) u f h (suc i) = taken_below e g m (rest u) f h i

  -- a product of polynomials and its remainder differ by a multiple
  remainder : (e : ℕ) (g : ℕ → ℕ) (m : ℕ) (u f : ℕ → ℕ) → EndsAt m u → plus (convolution mul u f) (reduced mul e g m u f) ≡ convolution mul (taken mul e g m u f) g
  remainder e g zero u f ends =
      ap (λ w. plus (convolution mul w f) none) (fun_ext (λ i. ends i (omega arith)))
      ∙ fun_ext (λ i. xor_zero_r (convolution mul none f i) ∙ convolution_none f i ∙ sym (convolution_none g i))
  remainder e g (suc m) u f ends =
      ap (λ w. plus w (reduced mul e g (suc m) u f)) (convolution_open mul u f)
      ∙ plus_cancel (times mul (u 0) f) (shift (convolution mul (rest u) f)) (step mul e g (reduced mul e g m (rest u) f))
      ∙ sym (plus_assoc (shift (convolution mul (rest u) f)) (shift (reduced mul e g m (rest u) f)) (times mul (reduced mul e g m (rest u) f e) g))
      ∙ ap (λ w. plus w (times mul (reduced mul e g m (rest u) f e) g)) (sym (shift_plus (convolution mul (rest u) f) (reduced mul e g m (rest u) f)) ∙ ap shift (remainder e g m (rest u) f (λ i h. ends (suc i) (omega arith))))
      ∙ plus_comm (shift (convolution mul (taken mul e g m (rest u) f) g)) (times mul (reduced mul e g m (rest u) f e) g)
      ∙ sym (convolution_open mul (taken mul e g (suc m) u f) g)

  -- no multiple of a monic polynomial of degree d has a smaller degree, but for 0
  pub no_multiple : (e : ℕ) (g : ℕ → ℕ) → g (suc e) ≡ 1 → EndsAt (suc (suc e)) g → (m : ℕ) (q : ℕ → ℕ) → AllBelow n q → EndsAt m q → EndsAt (suc e) (convolution mul q g) → (i : ℕ) → q i ≡ 0
  no_multiple e g monic last zero q below ends short i = ends i (omega arith)
  no_multiple e g monic last (suc m) q below ends short i =
      let others : (i : ℕ) → rest q i ≡ 0 = no_multiple e g monic last m (rest q) (λ i. below (suc i)) (λ i h. ends (suc i) (omega arith))
      (λ i h. sym (xor_zero_l (convolution mul (rest q) g i)) ∙ ap (λ x. bit_xor x (convolution mul (rest q) g i)) (sym (ap (mul (q 0)) (last (suc i) (omega arith)) ∙ mul_zero n mul ring (q 0))) ∙ short (suc i) (omega arith)) in
      at q others
      (sym (mul_one n mul ring (q 0) (below 0)) ∙ ap (mul (q 0)) (sym monic) ∙ sym (xor_zero_r (mul (q 0) (g (suc e))))
      ∙ ap (bit_xor (mul (q 0) (g (suc e)))) (sym (ap (λ w. convolution mul w g e) (fun_ext others) ∙ convolution_none g e)) ∙ short (suc e) (omega arith)) i
    where
      at : (q : ℕ → ℕ) → ((i : ℕ) → rest q i ≡ 0) → q 0 ≡ 0 → (i : ℕ) → q i ≡ 0
      at q others first zero = first
      at q others first (suc i) = others i

  module _ (e g : ℕ) (monic : IsMonic n (suc e) g) where
    -- the product is the remainder
    pub IsProductModulo-product : (u v : ℕ) → u < 2 ^ (n * suc e) → v < 2 ^ (n * suc e) → IsProductModulo n (suc e) mul g u v (product n (suc e) mul g u v)
    IsProductModulo-product u v hu hv = record {
      short = product_below n e mul g ring monic u v;
      quotient = packed n (suc e) (taken mul e (coefficient n g) (suc e) (coefficient n u) (coefficient n v));
      multiple = λ i.
          ap (λ f. bit_xor (convolution mul (coefficient n u) (coefficient n v) i) (f i)) (coefficient-product n e mul g ring monic u v hu hv)
          ∙ ap (λ f. f i) (remainder e (coefficient n g) (suc e) (coefficient n u) (coefficient n v) (coefficient_ends n (suc e) u hu))
          ∙ ap (λ f. convolution mul f (coefficient n g) i) (sym (fun_ext (coefficient-packed n (suc e) (taken mul e (coefficient n g) (suc e) (coefficient n u) (coefficient n v)) (taken_below e (coefficient n g) (suc e) (coefficient n u) (coefficient n v) (coefficient_below n v)) (taken_ends mul e (coefficient n g) (suc e) (coefficient n u) (coefficient n v)))));
    }

    -- the first m coefficients of u make the product where u has no others
    pub IsProductModulo-reduced : (m u v : ℕ) → EndsAt m (coefficient n u) → v < 2 ^ (n * suc e) → IsProductModulo n (suc e) mul g u v (packed n (suc e) (reduced mul e (coefficient n g) m (coefficient n u) (coefficient n v)))
    IsProductModulo-reduced m u v hu hv = record {
      short = packed_below n (suc e) (reduced mul e (coefficient n g) m (coefficient n u) (coefficient n v)) below;
      quotient = packed n m (taken mul e (coefficient n g) m (coefficient n u) (coefficient n v));
      multiple = λ i.
          ap (λ f. bit_xor (convolution mul (coefficient n u) (coefficient n v) i) (f i)) (fun_ext (coefficient-packed n (suc e) (reduced mul e (coefficient n g) m (coefficient n u) (coefficient n v)) below ends))
          ∙ ap (λ f. f i) (remainder e (coefficient n g) m (coefficient n u) (coefficient n v) hu)
          ∙ ap (λ f. convolution mul f (coefficient n g) i) (sym (fun_ext (coefficient-packed n m (taken mul e (coefficient n g) m (coefficient n u) (coefficient n v)) (taken_below e (coefficient n g) m (coefficient n u) (coefficient n v) (coefficient_below n v)) (taken_ends mul e (coefficient n g) m (coefficient n u) (coefficient n v)))));
    }
      where
        below : AllBelow n (reduced mul e (coefficient n g) m (coefficient n u) (coefficient n v))
        below = reduced_below n mul ring e (coefficient n g) m (coefficient n u) (coefficient n v) (coefficient_below n v)

        ends : EndsAt (suc e) (reduced mul e (coefficient n g) m (coefficient n u) (coefficient n v))
        ends = reduced_ends n mul ring e (coefficient n g) monic.leading monic.last m (coefficient n u) (coefficient n v) (coefficient_below n v) (coefficient_ends n (suc e) v hv)

    quotient_ends_by : (a b : ℕ) → EndsAt (a + b) (coefficient n a)
    quotient_ends_by a b = coefficient_ends n (a + b) a (lt_of_lt_of_le (self_below a) (pow_mono (le_trans (omega arith) (mul-le-mul_right (a + b) ring.some))))

    difference : (u v w x : ℕ) (p : IsProductModulo n (suc e) mul g u v w) (q : IsProductModulo n (suc e) mul g u v x) (i : ℕ) → convolution mul (plus (coefficient n p.quotient) (coefficient n q.quotient)) (coefficient n g) i ≡ bit_xor (coefficient n w i) (coefficient n x i)
    difference u v w x p q i =
        convolution_xor_left n mul ring (coefficient n p.quotient) (coefficient n q.quotient) (coefficient n g) i
        ∙ sym (ap₂ bit_xor (p.multiple i) (q.multiple i))
        ∙ ap (λ f. f i) (plus_cancel (convolution mul (coefficient n u) (coefficient n v)) (coefficient n w) (coefficient n x))

    pub IsProduct_same : (u v w x : ℕ) → IsProductModulo n (suc e) mul g u v w → IsProductModulo n (suc e) mul g u v x → w ≡ x
    IsProduct_same u v w x p q =
        let none_left : (i : ℕ) → plus (coefficient n p.quotient) (coefficient n q.quotient) i ≡ 0 =
        no_multiple e (coefficient n g) monic.leading monic.last (p.quotient + q.quotient) (plus (coefficient n p.quotient) (coefficient n q.quotient))
        (λ i. xor_lt n _ _ (coefficient_below n p.quotient i) (coefficient_below n q.quotient i))
        (λ i h. ap₂ bit_xor (quotient_ends_by p.quotient q.quotient i h) (quotient_ends_by q.quotient p.quotient i (omega arith)) ∙ xor_self 0)
        (λ i h. difference u v w x p q i ∙ ap₂ bit_xor (coefficient_ends n (suc e) w p.short i h) (coefficient_ends n (suc e) x q.short i h) ∙ xor_self 0) in
        sym (packed-coefficient n (suc e) w p.short)
        ∙ ap (packed n (suc e)) (fun_ext (λ i. xor_same (coefficient n w i) (coefficient n x i) (sym (difference u v w x p q i) ∙ ap (λ f. convolution mul f (coefficient n g) i) (fun_ext none_left) ∙ convolution_none (coefficient n g) i)))
        ∙ packed-coefficient n (suc e) x q.short

-- modulo a monic polynomial, the product of the quotient is the one product of the definition
pub HasOnlyProduct-from_ring : (n : ℕ) (mul : ℕ → ℕ → ℕ) → IsRing n mul → HasOnlyProduct n mul
HasOnlyProduct-from_ring n mul ring zero g u v w some monic hu hv = absurd (omega arith)
HasOnlyProduct-from_ring n mul ring (suc e) g u v w some monic hu hv = (
  λ p. IsProduct_same n mul ring e g monic u v w (product n (suc e) mul g u v) p (IsProductModulo-product n mul ring e g monic u v hu hv),
  λ is. subst (IsProductModulo n (suc e) mul g u v) (sym is) (IsProductModulo-product n mul ring e g monic u v hu hv),
)
