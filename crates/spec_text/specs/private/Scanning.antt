-- The token at the front of a text, computed. Source: this project's own.
use Rattle.std.specs.Prelude.{◌≡◌, ℕ, ◌+◌, ◌&&◌, cond, List, [], ◌∷◌, length, nat_lt, ◌==◌, Option, Some, None}
use Rattle.text_core.specs.Numbers.{value_of}
use Rattle.text_core.specs.Scan.{run, name_of, is_digit, is_hex_digit, is_letter, IsValue}
use Rattle.spec_text.specs.Token.{Token, name, hex, decimal, equals, plus, times, power}
use Rattle.spec_text.specs.declared.scan.Scanned.{Scanned}
use Rattle.spec_text.specs.declared.scan.Scanned.TheVariants.{Named, HexNumber, DecimalNumber, EqualsSign, PlusSign, TimesSign, PowerSign}

-- the hexadecimal digits after `0x` at the front
abbrev pub hex_run : List ℕ → List ℕ
hex_run [] = []
hex_run (a ∷ []) = []
hex_run (a ∷ b ∷ rest) = cond ((a == 48) && (b == 120)) (run is_hex_digit rest) []

-- a number that begins with a digit, and how many bytes it has
abbrev pub number_front : List ℕ → Token × ℕ
number_front bs = cond (nat_lt 0 (length (hex_run bs))) (hex (value_of 16 (hex_run bs)), length (hex_run bs) + 2) (decimal (value_of 10 (run is_digit bs)), length (run is_digit bs))

-- a number or a name, by the first byte
abbrev pub word_front : ℕ → List ℕ → Option (Token × ℕ)
word_front b bs = cond (is_digit b) (Some (number_front bs)) (cond (is_letter b) (Some (name (name_of bs), length (name_of bs))) None)

-- a sign, a number or a name, by the first byte
abbrev pub any_front : ℕ → List ℕ → Option (Token × ℕ)
any_front b bs = cond (b == 61) (Some (equals, 1)) (cond (b == 43) (Some (plus, 1)) (cond (b == 42) (Some (times, 1)) (cond (b == 94) (Some (power, 1)) (word_front b bs))))

abbrev pub front_of : List ℕ → Option (Token × ℕ)
front_of [] = None
front_of (b ∷ bs) = any_front b (b ∷ bs)

-- what is kept of a token
abbrev pub IsSeen : Scanned → Token → Type 0
IsSeen (Named bs) (name n) = bs.now ≡ n
IsSeen (HexNumber v) (hex n) = IsValue v n
IsSeen (DecimalNumber v) (decimal n) = IsValue v n
IsSeen EqualsSign equals = Unit {0}
IsSeen PlusSign plus = Unit {0}
IsSeen TimesSign times = Unit {0}
IsSeen PowerSign power = Unit {0}
IsSeen scanned t = ⊥

abbrev pub IsSeenAs : Token × ℕ → Scanned × ℕ → Type 0
IsSeenAs f s = IsSeen s.0 f.0 × (s.1 ≡ f.1)

abbrev pub IsSeenAt : Option (Token × ℕ) → Option (Scanned × ℕ) → Type 0
IsSeenAt None None = Unit {0}
IsSeenAt (Some f) (Some s) = IsSeenAs f s
IsSeenAt None (Some s) = ⊥
IsSeenAt (Some f) None = ⊥
