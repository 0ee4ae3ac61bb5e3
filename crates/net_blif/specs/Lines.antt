-- The lines of a text with their numbers, as a last `\` joins them. Source: the Berkeley Logic Interchange Format (BLIF), University of California, Berkeley.
use Rattle.std.specs.Prelude.{ℕ, ◌+◌, ◌-◌, ◌==◌, ◌||◌, ◌&&◌, Bool, List, [], ◌∷◌, ◌++◌, length, take, slice_index, nat_lt, if◌then◌else◌}
use Rattle.std.specs.Str.Lines.{lines}
use Rattle.text_core.specs.Lines.{before_comment}

-- a line of a text, and the number of its first physical line, from 1
abbrev pub Numbered : Type 0
Numbered = ℕ × List ℕ

-- a space, a tab or a CR
abbrev pub is_trailing : ℕ → Bool
is_trailing b = (b == 32) || (b == 9) || (b == 13)

-- a byte before what is left of those after it: it goes where none is left and it is trailing
abbrev pub before_trimmed : ℕ → List ℕ → List ℕ
before_trimmed b [] = if is_trailing b then [] else b ∷ []
before_trimmed b (c ∷ cs) = b ∷ c ∷ cs

-- without the spaces, tabs and CR at the end
abbrev pub trim_end : List ℕ → List ℕ
trim_end [] = []
trim_end (b ∷ bs) = before_trimmed b (trim_end bs)

-- a physical line without its comment and without what trails
abbrev pub clean : List ℕ → List ℕ
clean line = trim_end (before_comment line)

-- whether the last byte is `\`
abbrev pub goes_on : List ℕ → Bool
goes_on line = nat_lt 0 (length line) && (slice_index line (length line - 1) == 92)

-- without the last byte
abbrev pub without_last : List ℕ → List ℕ
without_last line = take (length line - 1) line

-- a front of a line, and behind a space the line after it, if there is one
abbrev pub join_first : ℕ → List ℕ → List Numbered → List Numbered
join_first n front [] = (n, front) ∷ []
join_first n front (line ∷ rest) = (n, front ++ 32 ∷ line.1) ∷ rest

-- a line before those after it, to which its last byte `\` joins it
abbrev pub join_line : ℕ → List ℕ → List Numbered → List Numbered
join_line n line rest = if goes_on line then join_first n (without_last line) rest else (n, line) ∷ rest

-- physical lines from number n, clean and joined
abbrev pub joined : ℕ → List (List ℕ) → List Numbered
joined n [] = []
joined n (line ∷ lines) = join_line n (clean line) (joined (n + 1) lines)

-- the lines of a text
abbrev pub lines_of : List ℕ → List Numbered
lines_of text = joined 1 (lines text)
