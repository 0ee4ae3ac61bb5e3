-- A number bit by bit.
use Rattle.std.proofs.Common.{◌≡◌, ◌∙◌, refl, ℕ, zero, suc, ◌<◌, ◌+◌, ◌-◌, ◌*◌, ◌^◌, Bool, true, false, cond, arith, below_more}
use Rattle.std.specs.Int.{bit_at}
use Rattle.std.proofs.lemmas.Nat.Bits.{bit_at_cat_low, bit_at_cat_high}
use Rattle.std.proofs.Math.Nat.{pow-succ'}
use Rattle.net_blif.specs.Cover.{bit_value, number_of_bits}

low_bit : (b : Bool) → bit_at (bit_value b) 0 ≡ bit_value b
low_bit true = refl
low_bit false = refl

-- one more bit above a number
more : (b : Bool) (n t : ℕ) → t + cond b (2 ^ n) 0 ≡ bit_value b * 2 ^ n + t
more true n t = omega arith
more false n t = omega arith

pub bits_small : (bit : ℕ → Bool) (n : ℕ) → number_of_bits bit n < 2 ^ n
bits_small bit zero = omega arith
bits_small bit (suc n) = by (bit n) (bits_small bit n)
  where
    by : (b : Bool) → number_of_bits bit n < 2 ^ n → number_of_bits bit n + cond b (2 ^ n) 0 < 2 ^ suc n
    by true less = rw pow-succ' (omega (arith, less))
    by false less = rw pow-succ' (omega (arith, less))

one_more : (bit : ℕ → Bool) (n : ℕ) → ((i : ℕ) → i < n → bit_at (number_of_bits bit n) i ≡ bit_value (bit i)) → (i : ℕ) → i < n + 1 → bit_at (number_of_bits bit n + cond (bit n) (2 ^ n) 0) i ≡ bit_value (bit i)
one_more bit n each i less = rw (more (bit n) n (number_of_bits bit n)) (below_more (λ i. bit_at (bit_value (bit n) * 2 ^ n + number_of_bits bit n) i ≡ bit_value (bit i)) n low high i less)
  where
    low : (i : ℕ) → i < n → bit_at (bit_value (bit n) * 2 ^ n + number_of_bits bit n) i ≡ bit_value (bit i)
    low i lower = bit_at_cat_low (bit_value (bit n)) n (number_of_bits bit n) i lower ∙ each i lower

    high : bit_at (bit_value (bit n) * 2 ^ n + number_of_bits bit n) n ≡ bit_value (bit n)
    high = bit_at_cat_high (bit_value (bit n)) n (number_of_bits bit n) n (bits_small bit n) (omega arith) ∙ (let e : n - n ≡ 0 = omega arith in rw e (low_bit (bit n)))

-- the bits of the number are those that it was made of
pub bits_same : (bit : ℕ → Bool) (n : ℕ) (i : ℕ) → i < n → bit_at (number_of_bits bit n) i ≡ bit_value (bit i)
bits_same bit zero i less = absurd (omega arith)
bits_same bit (suc n) i less = one_more bit n (bits_same bit n) i (omega (arith, less))
