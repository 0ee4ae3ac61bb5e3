-- The first line of a text, as a last `\` joins it, by its tokens. Source: this project's own.
use Rattle.std.specs.Prelude.{◌≡◌, ℕ, ◌+◌, ◌<◌, ◌≤◌, Bool, true, false, if◌then◌else◌, List, [], ◌∷◌, codes, length, All}
use Rattle.std.specs.List.{list_all}
use Rattle.std.specs.Str.Lines.{lines}
use Rattle.text_core.specs.Lines.{tokens_of}
use Rattle.net_blif.specs.Lines.{clean, goes_on, join_first, joined}
use Rattle.net_blif.specs.Statement.{IsToken, Token, is_cell, row_tokens}

-- The first physical line of a text is no front of another, these are its tokens, and this text follows it.
pub record StandsAlone (text : List ℕ) (words : List Token) (after : List ℕ) : Type 0 where
  pub line : List ℕ
  pub first : lines text ≡ line ∷ lines after
  pub ends : goes_on (clean line) ≡ false
  pub are : words ≡ tokens_of (clean line)

-- The first line of a text is a row of these cells and this output, which stands alone, and this text follows it.
pub record RowStandsAlone (text : List ℕ) (pattern : Token) (output : Bool) (after : List ℕ) : Type 0 where
  pub line : StandsAlone text (row_tokens pattern output) after
  pub cells : list_all is_cell pattern ≡ true
  pub tokens : All IsToken (row_tokens pattern output)
  pub shorter : length after < length text

-- These are the tokens of the first line of a text, which has so many physical lines, and this text follows it.
pub record BeginsWith (text : List ℕ) (words : List Token) (count : ℕ) (after : List ℕ) : Type 0 where
  pub line : List ℕ
  pub first : (n : ℕ) → joined n (lines text) ≡ (n, line) ∷ joined (n + count) (lines after)
  pub are : words ≡ tokens_of line

-- The same of the first physical lines of a line, which may go on in the text that follows.
pub record BeginsSo (text : List ℕ) (words : List Token) (count : ℕ) (more : Bool) (after : List ℕ) : Type 0 where
  pub line : List ℕ
  pub first : (n : ℕ) → joined n (lines text) ≡ (if more then join_first n line (joined (n + count) (lines after)) else (n, line) ∷ joined (n + count) (lines after))
  pub are : words ≡ tokens_of line

-- from `$` to `~`
abbrev pub IsWordByte : ℕ → Type 0
IsWordByte b = (36 ≤ b) × (b ≤ 126)

-- a run of bytes is a word unless it is empty
abbrev pub as_word : Token → List Token
as_word [] = []
as_word (b ∷ bs) = (b ∷ bs) ∷ []

-- words behind `.names`, or these alone
abbrev pub with_names : Bool → List Token → List Token
with_names true words = codes ".names" ∷ words
with_names false words = words
