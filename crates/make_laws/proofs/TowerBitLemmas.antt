-- The bits of the coefficients of a product in a tower.
use Rattle.std.proofs.Common.{◌≡◌, ℕ, ◌∙◌, ap, ap₂, ◌<◌, ◌^◌, ◌+◌, ◌*◌, ◌-◌, List, arith}
use Rattle.std.specs.Prelude.{bit_xor}
use Rattle.std.specs.Int.{bit_at}
use Rattle.lists.specs.laws.XorLaws.{bit_at-sum}
use Rattle.gf_field.proofs.SharedLemmas.{same_sum}
use Rattle.gf_field.specs.Ring.{IsRing}
use Rattle.gf_field.specs.Bit.{bit_mul}
use Rattle.gf_field.specs.Modulus.{IsModulus}
use Rattle.gf_field.specs.Polynomial.{coefficient, sum_of_first}
use Rattle.gf_field.specs.Quotient.{product}
use Rattle.gf_field.specs.laws.DivisionLaws.{convolution_below}
use Rattle.gf_field.specs.laws.PackingLaws.{coefficient_ends}
use Rattle.gf_field.specs.laws.ModulusLaws.{IsRing-from_modulus}
use Rattle.gf_tower.specs.Tower.{tower_polynomial}
use Rattle.gf_tower.specs.Digits.{IsPackedList}
use Rattle.make_laws.specs.ProductBits.{x_to}
use Rattle.make_laws.specs.TowerProduct.{HasTowerBits, pair_bit, pairs_at, Y_to}
use Rattle.make_laws.proofs.BitLemmas.{bit_at-times}
use Rattle.make_laws.proofs.SumLemmas.{bit_at-sum_of_first}
use Rattle.make_laws.proofs.ProductBitLemmas.{product_by_bits}
use Rattle.make_laws.proofs.PairLemmas.{pairs_bit}
use Rattle.make_laws.proofs.TowerLemmas.{tower_coefficients}

module _ (n g : ℕ) (ok : IsModulus n g) where
  abbrev mul : ℕ → ℕ → ℕ
  mul = product 1 n bit_mul g

  ring : IsRing n (product 1 n bit_mul g)
  ring = IsRing-from_modulus n g ok

  -- the bits of a product are sums over the bits of one factor
  pub bits_by_bits : (u c l : ℕ) → u < 2 ^ n → bit_at (mul u c) l ≡ sum_of_first n (λ s. bit_at u s * bit_at (mul (x_to n g s) c) l)
  bits_by_bits u c l h =
      ap (λ v. bit_at v l) (product_by_bits n g ok u c h)
      ∙ bit_at-sum_of_first n (λ s. bit_at u s * mul (x_to n g s) c) l
      ∙ same_sum n (λ s. bit_at (bit_at u s * mul (x_to n g s) c) l) (λ s. bit_at u s * bit_at (mul (x_to n g s) c) l) (λ s less. bit_at-times (bit_at u s) (mul (x_to n g s) c) l (omega arith))

  pub tower_bits : (m low : ℕ) (cs : List ℕ) → IsPackedList n m low cs → HasTowerBits n g m (tower_polynomial n cs)
  tower_bits m low cs list a b e l ha hb he =
      ap (λ v. bit_at v l) (tower_coefficients n m low cs list mul ring a b e ha hb he)
      ∙ bit_at-sum (pairs_at n mul a b e) (sum_of_first (m - 1) (λ i. mul (pairs_at n mul a b (m + i)) (coefficient n (Y_to n m mul (tower_polynomial n cs) (m + i)) e))) l
      ∙ ap₂ bit_xor (pair e l)
      (bit_at-sum_of_first (m - 1) (λ i. mul (pairs_at n mul a b (m + i)) (coefficient n (Y_to n m mul (tower_polynomial n cs) (m + i)) e)) l
      ∙ same_sum (m - 1) (λ i. bit_at (mul (pairs_at n mul a b (m + i)) (coefficient n (Y_to n m mul (tower_polynomial n cs) (m + i)) e)) l) (λ i. sum_of_first n (λ s. pair_bit n g m a b (m + i) s * bit_at (mul (x_to n g s) (coefficient n (Y_to n m mul (tower_polynomial n cs) (m + i)) e)) l)) (λ i less. one i))
    where
      pair : (d t : ℕ) → bit_at (pairs_at n mul a b d) t ≡ pair_bit n g m a b d t
      pair d t = pairs_bit n mul ring m (coefficient n a) (coefficient n b) (coefficient_ends n m a ha) (coefficient_ends n m b hb) d t

      one : (i : ℕ) → bit_at (mul (pairs_at n mul a b (m + i)) (coefficient n (Y_to n m mul (tower_polynomial n cs) (m + i)) e)) l ≡ sum_of_first n (λ s. pair_bit n g m a b (m + i) s * bit_at (mul (x_to n g s) (coefficient n (Y_to n m mul (tower_polynomial n cs) (m + i)) e)) l)
      one i =
          bits_by_bits (pairs_at n mul a b (m + i)) (coefficient n (Y_to n m mul (tower_polynomial n cs) (m + i)) e) l (convolution_below n mul ring (coefficient n a) (coefficient n b) (m + i))
          ∙ same_sum n (λ s. bit_at (pairs_at n mul a b (m + i)) s * bit_at (mul (x_to n g s) (coefficient n (Y_to n m mul (tower_polynomial n cs) (m + i)) e)) l) (λ s. pair_bit n g m a b (m + i) s * bit_at (mul (x_to n g s) (coefficient n (Y_to n m mul (tower_polynomial n cs) (m + i)) e)) l)
          (λ s less. ap (λ x. x * bit_at (mul (x_to n g s) (coefficient n (Y_to n m mul (tower_polynomial n cs) (m + i)) e)) l) (pair (m + i) s))
