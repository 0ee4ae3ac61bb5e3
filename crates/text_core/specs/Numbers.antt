-- Numbers in positional notation, by value. Leading zeros are allowed.
-- Source: Knuth, The Art of Computer Programming, section 4.1.
use Rattle.std.specs.Prelude.{◌≡◌, ◌⊎◌, ℕ, ◌+◌, ◌-◌, ◌*◌, ◌^◌, ◌<◌, ◌≤◌, List, [], ◌∷◌, ◌++◌, length, codes, EachIndex, slice_index, nat_lt, false, if◌then◌else◌}
use Rattle.std.specs.Fmt.{digits}

-- what a digit stands for: 0 to 9, and a to f or A to F for 10 to 15
abbrev pub digit_value : ℕ → ℕ
digit_value b = if nat_lt b 58 then b - 48 else (if nat_lt b 71 then b - 55 else b - 87)

-- a digit of base 16
abbrev pub IsHexDigit : ℕ → Type 0
IsHexDigit b = ((48 ≤ b) × (b ≤ 57)) ⊎ ((65 ≤ b) × (b ≤ 70)) ⊎ ((97 ≤ b) × (b ≤ 102))

-- a digit of a base up to 16
abbrev pub IsDigit : ℕ → ℕ → Type 0
IsDigit base b = IsHexDigit b × (digit_value b < base)

-- each digit counts its place
abbrev pub value_of : ℕ → List ℕ → ℕ
value_of base [] = 0
value_of base (b ∷ bs) = digit_value b * base ^ length bs + value_of base bs

-- at least one digit of the base
abbrev pub AreDigits : ℕ → List ℕ → Type 0
AreDigits base digits = (0 < length digits) × EachIndex digits (λ k. IsDigit base (slice_index digits k))

-- `0x` and hexadecimal digits of either case, with this value
abbrev pub IsHex : List ℕ → ℕ → Type 0
IsHex token n = (digits : List ℕ) × (token ≡ codes "0x" ++ digits) × AreDigits 16 digits × (n ≡ value_of 16 digits)

-- decimal digits with this value
abbrev pub IsDecimal : List ℕ → ℕ → Type 0
IsDecimal token n = AreDigits 10 token × (n ≡ value_of 10 token)

-- how a number is written in hexadecimal: in lower case, without leading zeros
abbrev pub hex_text : ℕ → List ℕ
hex_text n = codes "0x" ++ digits 16 false n
