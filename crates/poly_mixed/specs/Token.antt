-- The tokens of the text of a polynomial: names, numbers, `W[i]`, `@n` and signs, each as long as it can be.
-- Source: this project's own, docs/FORMATS.md.
use Rattle.std.specs.Prelude.{◌≡◌, ℕ, cond, List, [], ◌∷◌, length, drop, nat_lt, ◌==◌, Option, Some, None}
use Rattle.text_core.specs.Numbers.{value_of}
use Rattle.text_core.specs.Scan.{run, after, skip, name_of, index_of, is_digit, is_hex_digit, is_letter, begins_hex}

-- a variable as it is written: a word by its name, a bit of a word by its place, or a net by its number
pub data Named : Type 0 where
  word : List ℕ → Named
  bit : List ℕ → ℕ → Named
  net : ℕ → Named

-- a variable, a number in hexadecimal by its value, decimal digits as they stand, or one of `+`, `*`, `^`
pub data Token : Type 0 where
  variable : Named → Token
  hex : ℕ → Token
  figures : List ℕ → Token
  plus_sign : Token
  times_sign : Token
  power_sign : Token

-- a token at the front, and what stands after it
abbrev pub Front : Type 0
Front = Option (Token × List ℕ)

-- the net whose number stands after `@`
abbrev pub net_front : List ℕ → Front
net_front bs = cond (nat_lt 0 (length (run is_digit bs))) (Some (variable (net (value_of 10 (run is_digit bs))), after is_digit bs)) None

-- a name, with the index that may stand after it
abbrev pub name_with : List ℕ → List ℕ → Option (List ℕ × List ℕ) → Front
name_with name rest None = Some (variable (word name), rest)
name_with name rest (Some index) = Some (variable (bit name (value_of 10 index.0)), index.1)

abbrev pub name_front : List ℕ → Front
name_front bs = name_with (name_of bs) (drop (length (name_of bs)) bs) (index_of (drop (length (name_of bs)) bs))

-- `0x` and digits, or decimal digits
abbrev pub number_front : ℕ → List ℕ → Front
number_front b bs = cond (begins_hex (b ∷ bs)) (Some (hex (value_of 16 (run is_hex_digit (drop 1 bs))), after is_hex_digit (drop 1 bs))) (Some (figures (run is_digit (b ∷ bs)), after is_digit (b ∷ bs)))

abbrev pub sign_front : ℕ → List ℕ → Front
sign_front b bs = cond (b == 43) (Some (plus_sign, bs)) (cond (b == 42) (Some (times_sign, bs)) (cond (b == 94) (Some (power_sign, bs)) None))

-- the token at the front of a text, as long as it can be
abbrev pub token_front : List ℕ → Front
token_front [] = None
token_front (b ∷ bs) = cond (b == 64) (net_front bs) (cond (is_letter b) (name_front (b ∷ bs)) (cond (is_digit b) (number_front b bs) (sign_front b bs)))

-- the tokens stand at the front of the bytes, spaces and tabs before each, and the rest after them
abbrev pub AreFront : List ℕ → List Token → List ℕ → Type 0
AreFront bytes [] rest = rest ≡ bytes
AreFront bytes (t ∷ ts) rest = (more : List ℕ) × (token_front (skip bytes) ≡ Some (t, more)) × AreFront more ts rest
