-- The text of a table: a head, and then the values by row, one a line. Source: this project's own, docs/FORMATS.md.
use Rattle.std.specs.Prelude.{◌≡◌, ℕ, zero, suc, ◌+◌, ◌<◌, ◌≤◌, ◌^◌, List, [], ◌∷◌, ◌++◌, length, codes, Option, None, Some, slice_get, Ok, Err}
use Rattle.std.specs.Str.Lines.{lines}
use Rattle.outcome.specs.Outcome.{Outcome}
use Rattle.text_core.specs.Lines.{tokens_of}
use Rattle.text_core.specs.Numbers.{IsHex, hex_text}
use Rattle.lift_table.specs.declared.fault.TableFault.{TableFault}
use Rattle.lift_table.specs.declared.fault.TableFault.TheVariants.{Syntax, TooLarge, OutOfMemory}

-- the line that begins each table
abbrev pub IsHead : List ℕ → Type 0
IsHead line = tokens_of line ≡ codes "gftable" ∷ codes "1" ∷ []

-- a line of one hexadecimal number
pub record IsNumber (line : List ℕ) (value : ℕ) : Type 0 where
  pub token : List ℕ
  pub alone : tokens_of line ≡ token ∷ []
  pub hex : IsHex token value

-- what may stand in a place, counted from 0, of a table of n values: the head, then n numbers, then no line
abbrev pub IsFormed : ℕ → ℕ → Option (List ℕ) → Type 0
IsFormed n zero None = ⊥
IsFormed n zero (Some line) = IsHead line
IsFormed n (suc row) None = n ≤ row
IsFormed n (suc row) (Some line) = (row < n) × ((value : ℕ) × IsNumber line value)

-- the line in this place is the number
pub record IsNumberAt (all : List (List ℕ)) (place value : ℕ) : Type 0 where
  pub line : List ℕ
  pub at : slice_get all place ≡ Some line
  pub number : IsNumber line value

-- each place before this one is formed, and its value is below 2 to the k
pub record IsRightTo (k n : ℕ) (all : List (List ℕ)) (place : ℕ) : Type 0 where
  pub formed : (i : ℕ) → i < place → IsFormed n i (slice_get all i)
  pub small : (i value : ℕ) → i < place → IsNumberAt all i value → value < 2 ^ k

-- all lines are right, and these are the values
pub record IsTable (k n : ℕ) (all : List (List ℕ)) (table : List ℕ) : Type 0 where
  pub right : IsRightTo k n all (n + 2)
  pub long : length table ≡ n
  pub values : (row value : ℕ) → slice_get table row ≡ Some value → IsNumberAt all (row + 1) value

-- the first line that is not right has another form, is missing, or is one too many
pub record IsSyntaxFault (k n : ℕ) (all : List (List ℕ)) (line : ℕ) : Type 0 where
  pub place : ℕ
  pub line_is : line ≡ place + 1
  pub right : IsRightTo k n all place
  pub unformed : IsFormed n place (slice_get all place) → ⊥

-- the first line that is not right is a number that is not below 2 to the k
pub record IsTooLarge (k n : ℕ) (all : List (List ℕ)) (line : ℕ) : Type 0 where
  pub place : ℕ
  pub value : ℕ
  pub line_is : line ≡ place + 1
  pub right : IsRightTo k n all place
  pub formed : IsFormed n place (slice_get all place)
  pub number : IsNumberAt all place value
  pub large : 2 ^ k ≤ value

-- what comes of these lines, as a table of n values
abbrev pub LinesOutcome : ℕ → ℕ → List (List ℕ) → Outcome TableFault (List ℕ)
LinesOutcome k n all (Ok table) = IsTable k n all table
LinesOutcome k n all (Err (Syntax line)) = IsSyntaxFault k n all line
LinesOutcome k n all (Err (TooLarge line)) = IsTooLarge k n all line
LinesOutcome k n all (Err OutOfMemory) = ⊥

-- what comes of a text, as a table of n values
abbrev pub TableOutcome : ℕ → ℕ → List ℕ → Outcome TableFault (List ℕ)
TableOutcome k n bytes = LinesOutcome k n (lines bytes)

-- the lines of values
abbrev pub value_lines : List ℕ → List ℕ
value_lines [] = []
value_lines (value ∷ values) = hex_text value ++ (10 ∷ value_lines values)

-- how a table is written
abbrev pub table_text : List ℕ → List ℕ
table_text table = codes "gftable 1\n" ++ value_lines table
