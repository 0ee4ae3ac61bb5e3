-- Tables of functions of words over the field of 2 to the k elements: a value for each input, in rows. The words of an input
-- are the digits of its row. Source: Knuth, The Art of Computer Programming, section 4.1, for digits in a base.
use Rattle.std.specs.Prelude.{◌≡◌, ℕ, ◌+◌, ◌*◌, ◌^◌, List, [], ◌∷◌, Some, slice_get}

-- the row of an input: its words are the digits in base 2 to the k, word 0 first
abbrev pub row_of : ℕ → List ℕ → ℕ
row_of k [] = 0
row_of k (x ∷ xs) = x + 2 ^ k * row_of k xs

-- the function of a table has at an input the value of its row
abbrev pub IsTableValue : ℕ → List ℕ → List ℕ → ℕ → Type 0
IsTableValue k table xs e = slice_get table (row_of k xs) ≡ Some e
