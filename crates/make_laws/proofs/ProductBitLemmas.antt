-- The bits of a product are sums over the bits of its factors.
use Rattle.std.proofs.Common.{◌≡◌, ℕ, sym, ◌∙◌, ap, ◌<◌, ◌^◌, ◌+◌, ◌*◌, arith, mul_assoc}
use Rattle.std.specs.Int.{bit_at}
use native.Mathlib.Nat.{mod-eq_of_lt}
use Rattle.std.proofs.lemmas.Nat.Bits.{bit_at-lt}
use Rattle.gf_field.proofs.SharedLemmas.{same_sum}
use Rattle.gf_field.specs.Ring.{IsRing}
use Rattle.gf_field.specs.Bit.{bit_mul}
use Rattle.gf_field.specs.Modulus.{IsModulus}
use Rattle.gf_field.specs.Power.{power}
use Rattle.gf_field.specs.Polynomial.{sum_of_first}
use Rattle.gf_field.specs.Quotient.{product}
use Rattle.gf_field.specs.laws.PowerLaws.{power-add}
use Rattle.gf_field.specs.laws.ModulusLaws.{IsRing-from_modulus}
use Rattle.make_laws.specs.Indeterminate.{x_of}
use Rattle.make_laws.proofs.BitLemmas.{bit_at-times}
use Rattle.make_laws.proofs.SumLemmas.{sum_of_bits, sum_mul, sum_square, times_mul, times_square, times-sum_of_first, bit_at-sum_of_first}
use Rattle.make_laws.proofs.IndeterminateLemmas.{power_x}

module _ (k g : ℕ) (ok : IsModulus k g) where
  abbrev mul : ℕ → ℕ → ℕ
  mul = product 1 k bit_mul g

  abbrev x_to : ℕ → ℕ
  x_to i = power (product 1 k bit_mul g) (x_of k g) i

  ring : IsRing k (product 1 k bit_mul g)
  ring = IsRing-from_modulus k g ok

  -- an element by the powers of x
  pub element_sum : (a : ℕ) → a < 2 ^ k → a ≡ sum_of_first k (λ i. bit_at a i * x_to i)
  element_sum a h = sym (mod-eq_of_lt h) ∙ sum_of_bits a k ∙ same_sum k (λ i. bit_at a i * 2 ^ i) (λ i. bit_at a i * x_to i) (λ i l. ap (λ v. bit_at a i * v) (sym (power_x k g i ok l)))

  -- the products of an element
  pub product_by_bits : (a c : ℕ) → a < 2 ^ k → mul a c ≡ sum_of_first k (λ i. bit_at a i * mul (x_to i) c)
  product_by_bits a c h =
      ap (λ v. mul v c) (element_sum a h)
      ∙ sum_mul k mul ring k (λ i. bit_at a i * x_to i) c
      ∙ same_sum k (λ i. mul (bit_at a i * x_to i) c) (λ i. bit_at a i * mul (x_to i) c) (λ i l. times_mul k mul ring (bit_at a i) (x_to i) c (bit_at-lt a i))

  pub product_sum : (a b : ℕ) → a < 2 ^ k → b < 2 ^ k → mul a b ≡ sum_of_first k (λ i. bit_at a i * sum_of_first k (λ j. bit_at b j * x_to (i + j)))
  product_sum a b ha hb =
      product_by_bits a b ha
      ∙ same_sum k (λ i. bit_at a i * mul (x_to i) b) (λ i. bit_at a i * sum_of_first k (λ j. bit_at b j * x_to (i + j))) (λ i l. ap (λ v. bit_at a i * v) (inner i))
    where
      inner : (i : ℕ) → mul (x_to i) b ≡ sum_of_first k (λ j. bit_at b j * x_to (i + j))
      inner i =
          ring.comm (x_to i) b
          ∙ product_by_bits b (x_to i) hb
          ∙ same_sum k (λ j. bit_at b j * mul (x_to j) (x_to i)) (λ j. bit_at b j * x_to (i + j)) (λ j l. ap (λ v. bit_at b j * v) (ring.comm (x_to j) (x_to i) ∙ sym (power-add k mul ring (x_of k g) i j)))

  -- bit l of a * b is the sum over i and j of a_i * b_j * bit l of x ^ (i + j)
  pub product_bits : (a b l : ℕ) → a < 2 ^ k → b < 2 ^ k → bit_at (mul a b) l ≡ sum_of_first k (λ i. sum_of_first k (λ j. bit_at a i * bit_at b j * bit_at (x_to (i + j)) l))
  product_bits a b l ha hb =
      ap (λ v. bit_at v l) (product_sum a b ha hb)
      ∙ bit_at-sum_of_first k (λ i. bit_at a i * sum_of_first k (λ j. bit_at b j * x_to (i + j))) l
      ∙ same_sum k (λ i. bit_at (bit_at a i * sum_of_first k (λ j. bit_at b j * x_to (i + j))) l) (λ i. sum_of_first k (λ j. bit_at a i * bit_at b j * bit_at (x_to (i + j)) l)) (λ i less. inner i)
    where
      inner : (i : ℕ) → bit_at (bit_at a i * sum_of_first k (λ j. bit_at b j * x_to (i + j))) l ≡ sum_of_first k (λ j. bit_at a i * bit_at b j * bit_at (x_to (i + j)) l)
      inner i =
          bit_at-times (bit_at a i) (sum_of_first k (λ j. bit_at b j * x_to (i + j))) l (bit_at-lt a i)
          ∙ ap (λ v. bit_at a i * v) (bit_at-sum_of_first k (λ j. bit_at b j * x_to (i + j)) l)
          ∙ times-sum_of_first (bit_at a i) k (λ j. bit_at (bit_at b j * x_to (i + j)) l) (bit_at-lt a i)
          ∙ same_sum k (λ j. bit_at a i * bit_at (bit_at b j * x_to (i + j)) l) (λ j. bit_at a i * bit_at b j * bit_at (x_to (i + j)) l)
          (λ j less. ap (λ v. bit_at a i * v) (bit_at-times (bit_at b j) (x_to (i + j)) l (bit_at-lt b j)) ∙ sym (mul_assoc (bit_at a i) (bit_at b j) (bit_at (x_to (i + j)) l)))

  -- bit l of a * a is the sum over i of a_i * bit l of x ^ (2 * i)
  pub square_bits : (a l : ℕ) → a < 2 ^ k → bit_at (mul a a) l ≡ sum_of_first k (λ i. bit_at a i * bit_at (x_to (2 * i)) l)
  square_bits a l h =
      ap (λ v. bit_at (mul v v) l) (element_sum a h)
      ∙ ap (λ v. bit_at v l) (sum_square k mul ring k (λ i. bit_at a i * x_to i))
      ∙ bit_at-sum_of_first k (λ i. mul (bit_at a i * x_to i) (bit_at a i * x_to i)) l
      ∙ same_sum k (λ i. bit_at (mul (bit_at a i * x_to i) (bit_at a i * x_to i)) l) (λ i. bit_at a i * bit_at (x_to (2 * i)) l)
      (λ i less. ap (λ v. bit_at v l) (times_square k mul ring (bit_at a i) (x_to i) (bit_at-lt a i)) ∙ bit_at-times (bit_at a i) (mul (x_to i) (x_to i)) l (bit_at-lt a i) ∙ ap (λ v. bit_at a i * bit_at v l) (sym (power-add k mul ring (x_of k g) i i) ∙ ap x_to (twice i)))
    where
      twice : (i : ℕ) → i + i ≡ 2 * i
      twice i = omega arith
