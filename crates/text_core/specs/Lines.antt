-- The lines of a text and their tokens. A line ends with LF, and a CR before it is dropped; the last line may lack its LF.
-- Source: this project's own, docs/FORMATS.md.
use Rattle.std.specs.Prelude.{◌≢◌, ℕ, ◌≤◌, List, ◌==◌, Bool, ◌||◌, not, take_while, filter, length, nat_lt, All}
use Rattle.std.specs.List.{slice_split}

-- a space or a tab
abbrev pub is_blank : ℕ → Bool
is_blank b = (b == 32) || (b == 9)

-- a line up to its first `#`
abbrev pub before_comment : List ℕ → List ℕ
before_comment line = take_while (λ b. not (b == 35)) line

-- what stands between spaces and tabs
abbrev pub tokens_of : List ℕ → List (List ℕ)
tokens_of line = filter (λ token. nat_lt 0 (length token)) (slice_split is_blank line)

-- bytes that print: from `!` to `~`
abbrev pub IsPrinting : List ℕ → Type 0
IsPrinting token = All (λ b. (33 ≤ b) × (b ≤ 126)) token

-- bytes that print, without `\`
abbrev pub IsPlain : List ℕ → Type 0
IsPlain token = All (λ b. (33 ≤ b) × (b ≤ 126) × (b ≢ 92)) token
