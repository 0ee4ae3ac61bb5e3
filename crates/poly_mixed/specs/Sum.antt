-- Finite maps from keys in an order to numbers, as sorted lists, and their sums; the sum of two numbers is the exclusive or.
-- Source: this project's own.
use Rattle.std.specs.Prelude.{ℕ, cond, List, [], ◌∷◌, bit_xor, ◌==◌}
use Rattle.std.specs.declared.cmp.Ordering.{Ordering}
use Rattle.std.specs.Ordering.{match_ordering}

module _ {K : Type 0} where
  -- a coefficient of 0 leaves no term
  abbrev pub with_coefficient : K → ℕ → List (K × ℕ) → List (K × ℕ)
  with_coefficient m c ts = cond (c == 0) ts ((m, c) ∷ ts)

  -- the sum of what f gives at each term
  abbrev pub xor_sum : (K × ℕ → ℕ) → List (K × ℕ) → ℕ
  xor_sum f [] = 0
  xor_sum f (t ∷ ts) = bit_xor (f t) (xor_sum f ts)

  module _ (R : K → K → Ordering) where
    -- the terms with one more added to them
    abbrev pub plus_term : List (K × ℕ) → K × ℕ → List (K × ℕ)
    plus_term [] u = u ∷ []
    plus_term (t ∷ ts) u = match_ordering (R u.0 t.0) (u ∷ t ∷ ts) (with_coefficient t.0 (bit_xor t.1 u.1) ts) (t ∷ plus_term ts u)

    -- the terms with several more added to them
    abbrev pub plus : List (K × ℕ) → List (K × ℕ) → List (K × ℕ)
    plus ts [] = ts
    plus ts (u ∷ us) = plus (plus_term ts u) us
