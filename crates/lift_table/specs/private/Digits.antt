-- The input of a row, for the clauses of private functions.
-- Source: Knuth, The Art of Computer Programming, section 4.1, for digits in a base.
use Rattle.std.specs.Prelude.{ℕ, zero, suc, ◌/◌, ◌%◌, ◌^◌, List, [], ◌∷◌}

-- so many digits of the row in base 2 to the k, the lowest one first
abbrev pub digits_of : ℕ → ℕ → ℕ → List ℕ
digits_of k zero row = []
digits_of k (suc words) row = row % 2 ^ k ∷ digits_of k words (row / 2 ^ k)
