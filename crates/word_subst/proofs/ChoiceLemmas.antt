-- Products and sums of elements where a condition holds, and else 0.
use Rattle.std.proofs.Common.{◌≡◌, ◌∙◌, sym, ℕ, Bool, true, false, cond, bit_xor}
use Rattle.std.specs.Int.Bits.{xor_zero_l}
use Rattle.poly_mixed.specs.Polynomial.{IsElement}
use Rattle.poly_mixed.proofs.FieldLaws.{IsField}
use Rattle.poly_mixed.proofs.ValueLemmas.{one_element, product_by_zero}

module _ {k : ℕ} {mul : ℕ → ℕ → ℕ} (f : IsField k mul) where
  pub times_bit : (x : ℕ) → IsElement k x → (b : Bool) → mul x (cond b 1 0) ≡ cond b x 0
  times_bit x at true = f.comm x 1 at (one_element f) ∙ f.neutral x at
  times_bit x at false = product_by_zero f x at

  pub sum_where : (b : Bool) (x y z : ℕ) → IsElement k x → IsElement k y → IsElement k z → cond b (mul (bit_xor x y) z) 0 ≡ bit_xor (cond b (mul x z) 0) (cond b (mul y z) 0)
  sum_where true x y z hx hy hz = f.distrib x y z hx hy hz
  sum_where false x y z hx hy hz = sym (xor_zero_l 0)
