-- The laws of the convolution over a commutative ring.
use Rattle.std.proofs.Common.{◌≡◌, ℕ, zero, suc, sym, ◌∙◌, ap, ap₂, arith, ◌-◌}
use Rattle.std.specs.Prelude.{bit_xor}
use Rattle.std.specs.Int.Bits.{xor_assoc, xor_comm, xor_zero_l}
use Rattle.lists.specs.laws.XorLaws.{xor_swap, xor_cross}
use Rattle.gf_field.specs.Polynomial.{convolution, sum_of_first, IsSumOverPairs}
use Rattle.gf_field.specs.Ring.{IsRing}
use Rattle.gf_field.specs.Quotient.{rest}
use Rattle.gf_field.specs.laws.RingLaws.{distrib_left}
use mathlib.Core.Path.{fun_ext}

-- a sum of the first values, the first taken apart
pub sum_of_first_open : (m : ℕ) (f : ℕ → ℕ) → sum_of_first (suc m) f ≡ bit_xor (f 0) (sum_of_first m (rest f))
sum_of_first_open zero f = xor_comm 0 (f 0)
sum_of_first_open (suc m) f = ap (λ x. bit_xor x (f (suc m))) (sum_of_first_open m f) ∙ xor_assoc (f 0) (sum_of_first m (rest f)) (f (suc m))

pub IsSumOverPairs-convolution : (mul : ℕ → ℕ → ℕ) → IsSumOverPairs mul
IsSumOverPairs-convolution mul f g zero = sym (xor_zero_l (mul (f 0) (g 0)))
IsSumOverPairs-convolution mul f g (suc i) =
    ap₂ bit_xor (ap (λ x. mul (f 0) (g x)) (sym (whole (suc i)))) (IsSumOverPairs-convolution mul (rest f) g i ∙ ap (sum_of_first (suc i)) (fun_ext (λ j. ap (λ x. mul (f (suc j)) (g x)) (sym (both i j)))))
    ∙ sym (sum_of_first_open (suc i) (λ j. mul (f j) (g (suc i - j))))
  where
    whole : (i : ℕ) → i - 0 ≡ i
    whole i = omega arith

    both : (i j : ℕ) → suc i - suc j ≡ i - j
    both i j = omega arith

module _ (k : ℕ) (mul : ℕ → ℕ → ℕ) (ring : IsRing k mul) where
  -- the last coefficient of the first factor, taken apart
  convolution_last : (f g : ℕ → ℕ) (i : ℕ) → convolution mul f g (suc i) ≡ bit_xor (mul (f (suc i)) (g 0)) (convolution mul f (rest g) i)
  convolution_last f g zero = xor_comm (mul (f 0) (g 1)) (mul (f 1) (g 0))
  convolution_last f g (suc i) =
      ap (bit_xor (mul (f 0) (g (suc (suc i))))) (convolution_last (rest f) g i)
      ∙ xor_swap (mul (f 0) (g (suc (suc i)))) (mul (f (suc (suc i))) (g 0)) (convolution mul (rest f) (rest g) i)

  pub convolution_comm : (f g : ℕ → ℕ) (i : ℕ) → convolution mul f g i ≡ convolution mul g f i
  convolution_comm f g zero = ring.comm (f 0) (g 0)
  convolution_comm f g (suc i) =
      ap (λ x. bit_xor x (convolution mul (rest f) g i)) (ring.comm (f 0) (g (suc i)))
      ∙ ap (bit_xor (mul (g (suc i)) (f 0))) (convolution_comm (rest f) g i)
      ∙ sym (convolution_last g f i)

  pub convolution_xor : (f g h : ℕ → ℕ) (i : ℕ) → convolution mul f (λ j. bit_xor (g j) (h j)) i ≡ bit_xor (convolution mul f g i) (convolution mul f h i)
  convolution_xor f g h zero = ring.distrib (f 0) (g 0) (h 0)
  convolution_xor f g h (suc i) =
      ap (λ x. bit_xor x (convolution mul (rest f) (λ j. bit_xor (g j) (h j)) i)) (ring.distrib (f 0) (g (suc i)) (h (suc i)))
      ∙ ap (bit_xor (bit_xor (mul (f 0) (g (suc i))) (mul (f 0) (h (suc i))))) (convolution_xor (rest f) g h i)
      ∙ xor_cross (mul (f 0) (g (suc i))) (mul (f 0) (h (suc i))) (convolution mul (rest f) g i) (convolution mul (rest f) h i)

  pub convolution_xor_left : (f g h : ℕ → ℕ) (i : ℕ) → convolution mul (λ j. bit_xor (f j) (g j)) h i ≡ bit_xor (convolution mul f h i) (convolution mul g h i)
  convolution_xor_left f g h zero = distrib_left k mul ring (f 0) (g 0) (h 0)
  convolution_xor_left f g h (suc i) =
      ap (λ x. bit_xor x (convolution mul (λ j. bit_xor (rest f j) (rest g j)) h i)) (distrib_left k mul ring (f 0) (g 0) (h (suc i)))
      ∙ ap (bit_xor (bit_xor (mul (f 0) (h (suc i))) (mul (g 0) (h (suc i))))) (convolution_xor_left (rest f) (rest g) h i)
      ∙ xor_cross (mul (f 0) (h (suc i))) (mul (g 0) (h (suc i))) (convolution mul (rest f) h i) (convolution mul (rest g) h i)

  pub convolution_scale : (a : ℕ) (f g : ℕ → ℕ) (i : ℕ) → convolution mul (λ j. mul a (f j)) g i ≡ mul a (convolution mul f g i)
  convolution_scale a f g zero = ring.assoc a (f 0) (g 0)
  convolution_scale a f g (suc i) =
      ap (λ x. bit_xor x (convolution mul (λ j. mul a (rest f j)) g i)) (ring.assoc a (f 0) (g (suc i)))
      ∙ ap (bit_xor (mul a (mul (f 0) (g (suc i))))) (convolution_scale a (rest f) g i)
      ∙ sym (ring.distrib a (mul (f 0) (g (suc i))) (convolution mul (rest f) g i))

  pub convolution_assoc : (f g h : ℕ → ℕ) (i : ℕ) → convolution mul (convolution mul f g) h i ≡ convolution mul f (convolution mul g h) i
  convolution_assoc f g h zero = ring.assoc (f 0) (g 0) (h 0)
  convolution_assoc f g h (suc i) =
      ap (λ x. bit_xor x (convolution mul (rest (convolution mul f g)) h i)) (ring.assoc (f 0) (g 0) (h (suc i)))
      ∙ ap (bit_xor (mul (f 0) (mul (g 0) (h (suc i)))))
      (convolution_xor_left (λ j. mul (f 0) (g (suc j))) (convolution mul (rest f) g) h i
      ∙ ap (λ x. bit_xor x (convolution mul (convolution mul (rest f) g) h i)) (convolution_scale (f 0) (rest g) h i)
      ∙ ap (bit_xor (mul (f 0) (convolution mul (rest g) h i))) (convolution_assoc (rest f) g h i))
      ∙ sym (xor_assoc (mul (f 0) (mul (g 0) (h (suc i)))) (mul (f 0) (convolution mul (rest g) h i)) (convolution mul (rest f) (convolution mul g h) i))
      ∙ ap (λ x. bit_xor x (convolution mul (rest f) (convolution mul g h) i)) (sym (ring.distrib (f 0) (mul (g 0) (h (suc i))) (convolution mul (rest g) h i)))
