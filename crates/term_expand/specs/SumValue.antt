-- The value of a sum of products at an element for each word, and its factors. Source: this project's own.
use Rattle.std.specs.Prelude.{ℕ, zero, suc, ◌+◌, ◌^◌, ◌/◌, ◌%◌, cond, List, [], ◌∷◌, ◌++◌, take, slice_index, bit_xor, ◌==◌}
use Rattle.gf_field.specs.Power.{power}
use Rattle.term_expand.specs.Sums.{SumOfProducts}

module _ (mul : ℕ → ℕ → ℕ) (xs : List ℕ) where
  -- the product of each named word's element to its exponent
  abbrev pub powers_at : List (ℕ × ℕ) → ℕ
  powers_at [] = 1
  powers_at (p ∷ ps) = mul (power mul (slice_index xs p.0) p.1) (powers_at ps)

  -- the sum over the terms of the coefficient times the powers
  abbrev pub sum_at : SumOfProducts → ℕ
  sum_at [] = 0
  sum_at (t ∷ ts) = bit_xor (mul t.0 (powers_at t.1)) (sum_at ts)

-- the j that are 1 in the binary digits of an exponent below 2^n, from the lowest on, counted from `first`
abbrev pub ones_of : ℕ → ℕ → ℕ → List ℕ
ones_of zero first e = []
ones_of (suc n) first e = cond (e % 2 == 1) (first ∷ ones_of n (first + 1) (e / 2)) (ones_of n (first + 1) (e / 2))

-- the word to the powers 2^j
abbrev pub factors_with : ℕ → List ℕ → List (ℕ × ℕ)
factors_with w [] = []
factors_with w (j ∷ js) = (w, 2 ^ j) ∷ factors_with w js

-- the factors of a term: for each pair in order and each binary one j of its exponent the word to the power 2^j
abbrev pub factors_of : List (ℕ × ℕ) → List (ℕ × ℕ)
factors_of [] = []
factors_of (p ∷ ps) = factors_with p.0 (ones_of 64 0 p.1) ++ factors_of ps

-- the coefficient times the first j factors
abbrev pub product_at : (ℕ → ℕ → ℕ) → List ℕ → ℕ × List (ℕ × ℕ) → ℕ → ℕ
product_at mul xs t j = mul t.0 (powers_at mul xs (take j (factors_of t.1)))
