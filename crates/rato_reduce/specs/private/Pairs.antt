-- What is put in at the output of a gate of one input or two. Source: this project's own.
use Rattle.std.specs.Prelude.{ℕ, Bool, cond, List, [], ◌∷◌, ◌++◌}
use Rattle.poly_mixed.specs.Product.{with_rank}
use Rattle.rato_reduce.specs.declared.pair.Pair.{Pair}
use Rattle.rato_reduce.specs.private.Buckets.{AreUpTo}

-- a set of bits, if it is there
abbrev pub set_if : Bool → List ℕ → List (List ℕ)
set_if b set = cond b (set ∷ []) []

-- the bits of the product of a pair's inputs
abbrev pub both_bits : Pair → List ℕ
both_bits pair = with_rank (pair.first ∷ []) pair.second

-- the sets of bits of a pair
abbrev pub pair_sets : Pair → List (List ℕ)
pair_sets pair = (set_if pair.one [] ++ set_if pair.high (pair.second ∷ [])) ++ (set_if pair.low (pair.first ∷ []) ++ set_if pair.all (both_bits pair))

-- the bits of a pair are up to its levels
pub record HasLevels (places : List ℕ) (pair : Pair) : Type 0 where
  pub first_up : AreUpTo places pair.first_level (pair.first ∷ [])
  pub second_up : AreUpTo places pair.second_level (pair.second ∷ [])
  pub both_up : AreUpTo places pair.level (both_bits pair)
