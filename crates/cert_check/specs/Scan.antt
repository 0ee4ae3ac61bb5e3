-- Tokens of a line's frame: words, numbers, `W[i]` and signs, each as long as it can be, spaces and tabs before it.
-- Source: this project's own, docs/FORMATS.md.
use Rattle.std.specs.Prelude.{ℕ, Bool, cond, List, [], ◌∷◌, length, drop, nat_lt, ◌==◌, Option, Some, None, bytes_eq}
use Rattle.text_core.specs.Scan.{run, after, skip, name_of, index_of, is_digit, is_name_byte, is_letter, begins_hex}

-- nothing but spaces and tabs is left
abbrev pub is_blank : List ℕ → Bool
is_blank bytes = length (skip bytes) == 0

-- what stands after this word of letters, digits and `_`
abbrev pub after_word : List ℕ → List ℕ → Option (List ℕ)
after_word word bytes = cond (bytes_eq (run is_name_byte (skip bytes)) word) (Some (after is_name_byte (skip bytes))) None

-- what stands after this byte, where it is the first
abbrev pub after_first : ℕ → List ℕ → Option (List ℕ)
after_first byte [] = None
after_first byte (b ∷ bs) = cond (b == byte) (Some bs) None

-- what stands after this sign
abbrev pub after_sign : ℕ → List ℕ → Option (List ℕ)
after_sign byte bytes = after_first byte (skip bytes)

-- decimal digits, at least one, and what stands after them
abbrev pub digits_first : List ℕ → Option (List ℕ × List ℕ)
digits_first bytes = cond (nat_lt 0 (length (run is_digit bytes))) (Some (run is_digit bytes, after is_digit bytes)) None

-- unless they begin a hexadecimal number
abbrev pub digits_in : List ℕ → Option (List ℕ × List ℕ)
digits_in bytes = cond (begins_hex bytes) None (digits_first bytes)

-- the same, after spaces and tabs
abbrev pub digits_at : List ℕ → Option (List ℕ × List ℕ)
digits_at bytes = digits_in (skip bytes)

-- a name with an index
abbrev pub indexed : List ℕ → Option (List ℕ × List ℕ) → Option (List ℕ × List ℕ × List ℕ)
indexed name None = None
indexed name (Some index) = Some (name, index.0, index.1)

-- the name, the digits of the index, and what stands after `W[i]`, which is the first
abbrev pub indexed_in : List ℕ → Option (List ℕ × List ℕ × List ℕ)
indexed_in [] = None
indexed_in (b ∷ bs) = cond (is_letter b) (indexed (name_of (b ∷ bs)) (index_of (drop (length (name_of (b ∷ bs))) (b ∷ bs)))) None

-- the name, the digits of the index, and what stands after `W[i]`
abbrev pub indexed_at : List ℕ → Option (List ℕ × List ℕ × List ℕ)
indexed_at bytes = indexed_in (skip bytes)
