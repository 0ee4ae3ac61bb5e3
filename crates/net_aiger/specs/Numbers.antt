-- The words of a line, which spaces separate, and the numbers that they say.
-- Source: Armin Biere, The AIGER And-Inverter Graph (AIG) Format, Johannes Kepler University, Linz, 2007.
use Rattle.std.specs.Prelude.{ℕ, ◌==◌, ◌&&◌, Bool, nat_lt, nat_le, List, [], ◌∷◌, Option, None, Some, filter, length, if◌then◌else◌}
use Rattle.std.specs.List.{list_all, slice_split}
use Rattle.text_core.specs.Numbers.{value_of}

abbrev pub is_space : ℕ → Bool
is_space b = b == 32

-- what stands between spaces
abbrev pub words_of : List ℕ → List (List ℕ)
words_of line = filter (λ word. nat_lt 0 (length word)) (slice_split is_space line)

abbrev pub is_digit : ℕ → Bool
is_digit b = nat_le 48 b && nat_le b 57

-- at least one decimal digit, and a value below 2^32
abbrev pub is_number : List ℕ → Bool
is_number word = (nat_lt 0 (length word) && list_all is_digit word) && nat_le (value_of 10 word) 4294967295

abbrev pub number_of : List ℕ → Option ℕ
number_of word = if is_number word then Some (value_of 10 word) else None

-- a number before others, where all are numbers
abbrev pub put_first : Option ℕ → Option (List ℕ) → Option (List ℕ)
put_first (Some n) (Some ns) = Some (n ∷ ns)
put_first (Some n) None = None
put_first None ns = None

-- the numbers that the words say, where each says one
abbrev pub numbers_of : List (List ℕ) → Option (List ℕ)
numbers_of [] = Some []
numbers_of (word ∷ words) = put_first (number_of word) (numbers_of words)
