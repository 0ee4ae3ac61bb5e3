-- Sums of values of functions over a ring.
use Rattle.std.proofs.Common.{◌≡◌, ℕ, zero, suc, sym, refl, ◌∙◌, ap}
use Rattle.std.specs.Prelude.{bit_xor}
use Rattle.std.specs.Int.Bits.{xor_zero_l}
use Rattle.lists.specs.laws.XorLaws.{xor_cross}
use Rattle.gf_field.proofs.SharedLemmas.{same_sum, sum_zero}
use Rattle.gf_field.specs.Ring.{IsRing}
use Rattle.gf_field.specs.laws.RingLaws.{mul_zero}
use Rattle.gf_field.specs.Polynomial.{sum_of_first}

pub sum_xor : (m : ℕ) (f g : ℕ → ℕ) → sum_of_first m (λ i. bit_xor (f i) (g i)) ≡ bit_xor (sum_of_first m f) (sum_of_first m g)
sum_xor zero f g = sym (xor_zero_l 0)
sum_xor (suc m) f g = ap (λ x. bit_xor x (bit_xor (f m) (g m))) (sum_xor m f g) ∙ xor_cross (sum_of_first m f) (sum_of_first m g) (f m) (g m)

-- the order of two sums
pub sum_swap : (m n : ℕ) (f : ℕ → ℕ → ℕ) → sum_of_first m (λ i. sum_of_first n (λ j. f i j)) ≡ sum_of_first n (λ j. sum_of_first m (λ i. f i j))
sum_swap zero n f = sym (sum_zero n (λ j. 0) (λ j less. refl))
sum_swap (suc m) n f =
    ap (λ x. bit_xor x (sum_of_first n (λ j. f m j))) (sum_swap m n f)
    ∙ sym (sum_xor n (λ j. sum_of_first m (λ i. f i j)) (λ j. f m j))

module _ (k : ℕ) (mul : ℕ → ℕ → ℕ) (ring : IsRing k mul) where
  pub sum_scale : (a m : ℕ) (f : ℕ → ℕ) → sum_of_first m (λ i. mul a (f i)) ≡ mul a (sum_of_first m f)
  sum_scale a zero f = sym (mul_zero k mul ring a)
  sum_scale a (suc m) f = ap (λ x. bit_xor x (mul a (f m))) (sum_scale a m f) ∙ sym (ring.distrib a (sum_of_first m f) (f m))

  pub sum_scale_right : (a m : ℕ) (f : ℕ → ℕ) → sum_of_first m (λ i. mul (f i) a) ≡ mul (sum_of_first m f) a
  sum_scale_right a m f = same_sum m (λ i. mul (f i) a) (λ i. mul a (f i)) (λ i less. ring.comm (f i) a) ∙ (sum_scale a m f ∙ ring.comm a (sum_of_first m f))
