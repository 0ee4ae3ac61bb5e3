-- Runs of bytes at the front of a text, each as long as it can be: blanks, digits, names, and an index `[i]`.
-- Source: this project's own, docs/FORMATS.md.
use Rattle.std.specs.Prelude.{◌≡◌, ℕ, ◌^◌, ◌≤◌, Bool, false, ◌&&◌, ◌||◌, not, cond, List, [], ◌∷◌, length, take, drop, take_while, nat_lt, ◌==◌, Option, Some, None}
use Rattle.text_core.specs.Lines.{is_blank}
use Rattle.text_core.specs.declared.scan.Class.{Class}
use Rattle.text_core.specs.declared.scan.Class.TheVariants.{Blank, White, Digit, HexDigit, NameByte}

-- bytes from a first to a last one
abbrev pub is_from : ℕ → ℕ → ℕ → Bool
is_from first last b = not (nat_lt b first) && not (nat_lt last b)

-- space, tab, LF or CR
abbrev pub is_white : ℕ → Bool
is_white b = (b == 32) || (b == 9) || (b == 10) || (b == 13)

abbrev pub is_digit : ℕ → Bool
is_digit b = is_from 48 57 b

abbrev pub is_hex_digit : ℕ → Bool
is_hex_digit b = is_digit b || is_from 65 70 b || is_from 97 102 b

abbrev pub is_letter : ℕ → Bool
is_letter b = is_from 65 90 b || is_from 97 122 b

abbrev pub is_name_byte : ℕ → Bool
is_name_byte b = is_letter b || is_digit b || (b == 95)

-- whether a byte is of a class
abbrev pub is_in : Class → ℕ → Bool
is_in Blank b = is_blank b
is_in White b = is_white b
is_in Digit b = is_digit b
is_in HexDigit b = is_hex_digit b
is_in NameByte b = is_name_byte b

-- the run of such bytes at the front
abbrev pub run : (ℕ → Bool) → List ℕ → List ℕ
run q bs = take_while q bs

-- what stands after the run
abbrev pub after : (ℕ → Bool) → List ℕ → List ℕ
after q bs = drop (length (run q bs)) bs

-- without the blanks at the front
abbrev pub skip : List ℕ → List ℕ
skip bs = after is_blank bs

-- the name at the front, at most 255 bytes
abbrev pub name_of : List ℕ → List ℕ
name_of bs = take 255 (run is_name_byte bs)

-- digits, where `]` stands after them
abbrev pub closed_by : List ℕ → List ℕ → Option (List ℕ × List ℕ)
closed_by digits [] = None
closed_by digits (b ∷ bs) = cond ((b == 93) && nat_lt 0 (length digits)) (Some (digits, bs)) None

-- the digits of an index `[i]` at the front, and what stands after it
abbrev pub index_of : List ℕ → Option (List ℕ × List ℕ)
index_of [] = None
index_of (b ∷ bs) = cond (b == 91) (closed_by (run is_digit bs) (after is_digit bs)) None

-- whether `x` and a hexadecimal digit stand at the front
abbrev pub has_digits : List ℕ → Bool
has_digits [] = false
has_digits (b ∷ bs) = (b == 120) && nat_lt 0 (length (run is_hex_digit bs))

-- whether a hexadecimal number stands at the front
abbrev pub begins_hex : List ℕ → Bool
begins_hex [] = false
begins_hex (b ∷ bs) = (b == 48) && has_digits bs

-- a number that is kept only where it is below 2^64
abbrev pub IsValue : Option ℕ → ℕ → Type 0
IsValue None n = 2 ^ 64 ≤ n
IsValue (Some m) n = m ≡ n
