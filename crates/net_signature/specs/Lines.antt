-- The lines of a signature that have tokens, by number from 1. A comment begins at `#`.
-- Source: this project's own format, docs/FORMATS.md.
use Rattle.std.specs.Prelude.{ℕ, ◌+◌, List, [], ◌∷◌, filter, length, nat_lt}
use Rattle.std.specs.Str.Lines.{lines}
use Rattle.text_core.specs.Lines.{before_comment, tokens_of}

abbrev pub Token : Type 0
Token = List ℕ

-- a line by its number and its tokens
pub record Line : Type 0 where
  pub number : ℕ
  pub tokens : List Token

-- lines by number, of which the first has the number n
abbrev pub numbered : ℕ → List (List ℕ) → List Line
numbered n [] = []
numbered n (line ∷ rest) = record { number = n; tokens = tokens_of (before_comment line) } ∷ numbered (n + 1) rest

-- the lines that have tokens, of which the first line of the text has the number n
abbrev pub lines_from : ℕ → List ℕ → List Line
lines_from n text = filter (λ line. nat_lt 0 (length line.tokens)) (numbered n (lines text))

-- the number after that of the last line, where what is missing is missed
abbrev pub end_from : ℕ → List ℕ → ℕ
end_from n text = n + length (lines text)
