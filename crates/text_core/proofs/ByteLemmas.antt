-- What the bytes of a class are.
use Rattle.std.proofs.Common.{◌≡◌, inl, inr, refl, ℕ, ◌<◌, ◌≤◌, true, false, List, arith}
use Rattle.std.specs.Prelude.{slice_index, EachIndex}
use Rattle.std.proofs.lemmas.Bool.{cases_lt}
use Rattle.std.proofs.lemmas.Bool.Decides.{nat_tests}
use Rattle.std.proofs.lemmas.Grind.{common_steps}
use Rattle.std.specs.Char.{IsAsciiAlphabetic}
use Rattle.text_core.specs.Names.{IsNameByte}
use Rattle.text_core.specs.Numbers.{digit_value, IsDigit, IsHexDigit}
use Rattle.text_core.specs.Scan.{is_digit, is_hex_digit, is_letter, is_name_byte}
use Rattle.text_core.proofs.RunLemmas.{Passes, each_passes}

low_value : (b : ℕ) → 48 ≤ b → b ≤ 57 → digit_value b < 10
low_value b p q = grind (arith, nat_tests)

low_value_16 : (b : ℕ) → 48 ≤ b → b ≤ 57 → digit_value b < 16
low_value_16 b p q = grind (arith, nat_tests)

upper_value : (b : ℕ) → 65 ≤ b → b ≤ 70 → digit_value b < 16
upper_value b p q = grind (arith, nat_tests)

lower_value : (b : ℕ) → 97 ≤ b → b ≤ 102 → digit_value b < 16
lower_value b p q = grind (arith, nat_tests)

digit_low : (b : ℕ) → b < 48 → is_digit b ≡ true → ⊥
digit_low b h e = grind (arith, common_steps)

pub digit_high : (b : ℕ) → 58 ≤ b → is_digit b ≡ true → ⊥
digit_high b h e = grind (arith, common_steps)

pub digit_range : (b : ℕ) → is_digit b ≡ true → (48 ≤ b) × (b ≤ 57)
digit_range b e = elim (cases_lt b 48) [
  | inl l ↦ absurd (digit_low b l e)
  | inr g ↦ elim (cases_lt b 58) [ inl l ↦ (g, (omega (arith, l))) | inr h ↦ absurd (digit_high b h e) ]
]

pub range_digit : (b : ℕ) → 48 ≤ b → b ≤ 57 → is_digit b ≡ true
range_digit b p q = grind (arith, common_steps)

pub digit_is : (b : ℕ) → is_digit b ≡ true → IsDigit 10 b
digit_is b e = let r = digit_range b e in (inl r, low_value b r.0 r.1)

hex_low : (b : ℕ) → b < 48 → is_hex_digit b ≡ true → ⊥
hex_low b h e = grind (arith, common_steps)

hex_middle : (b : ℕ) → 58 ≤ b → b < 65 → is_hex_digit b ≡ true → ⊥
hex_middle b h g e = grind (arith, common_steps)

hex_gap : (b : ℕ) → 71 ≤ b → b < 97 → is_hex_digit b ≡ true → ⊥
hex_gap b h g e = grind (arith, common_steps)

hex_high : (b : ℕ) → 103 ≤ b → is_hex_digit b ≡ true → ⊥
hex_high b h e = grind (arith, common_steps)

pub hex_is : (b : ℕ) → is_hex_digit b ≡ true → IsDigit 16 b
hex_is b e = elim (cases_lt b 48) [
  | inl l ↦ absurd (hex_low b l e)
  | inr g ↦ elim (cases_lt b 58) [
    | inl l ↦ (inl (g, (omega (arith, l))), low_value_16 b g (omega (arith, l)))
    | inr h ↦ elim (cases_lt b 65) [
      | inl l ↦ absurd (hex_middle b h l e)
      | inr i ↦ elim (cases_lt b 71) [
        | inl l ↦ (inr (inl (i, (omega (arith, l)))), upper_value b i (omega (arith, l)))
        | inr j ↦ elim (cases_lt b 97) [
          | inl l ↦ absurd (hex_gap b j l e)
          | inr m ↦ elim (cases_lt b 103) [ inl l ↦ (inr (inr (m, (omega (arith, l)))), lower_value b m (omega (arith, l))) | inr n ↦ absurd (hex_high b n e) ]
        ]
      ]
    ]
  ]
]

is_hex_range : (b : ℕ) → IsHexDigit b → is_hex_digit b ≡ true
is_hex_range b h = grind (arith, common_steps)

pub is_hex : (b : ℕ) → IsDigit 16 b → is_hex_digit b ≡ true
is_hex b h = is_hex_range b h.0

letter_low : (b : ℕ) → b < 65 → is_letter b ≡ true → ⊥
letter_low b h e = grind (arith, common_steps)

letter_gap : (b : ℕ) → 91 ≤ b → b < 97 → is_letter b ≡ true → ⊥
letter_gap b h g e = grind (arith, common_steps)

letter_high : (b : ℕ) → 123 ≤ b → is_letter b ≡ true → ⊥
letter_high b h e = grind (arith, common_steps)

pub letter_is : (b : ℕ) → is_letter b ≡ true → IsAsciiAlphabetic b
letter_is b e = elim (cases_lt b 65) [
  | inl l ↦ absurd (letter_low b l e)
  | inr g ↦ elim (cases_lt b 91) [
    | inl l ↦ inl (g, (omega (arith, l)))
    | inr h ↦ elim (cases_lt b 97) [
      | inl l ↦ absurd (letter_gap b h l e)
      | inr i ↦ elim (cases_lt b 123) [ inl l ↦ inr (i, (omega (arith, l))) | inr j ↦ absurd (letter_high b j e) ]
    ]
  ]
]

pub is_name : (b : ℕ) → IsNameByte b → is_name_byte b ≡ true
is_name b h = grind (arith, common_steps)

name_rest : (b : ℕ) → is_letter b ≡ false → is_digit b ≡ false → is_name_byte b ≡ true → b ≡ 95
name_rest b l d e = grind (arith, common_steps)

pub letter_byte : (b : ℕ) → is_letter b ≡ true → IsNameByte b
letter_byte b l = elim (letter_is b l) [ inl upper ↦ inl (inl (inr upper)) | inr lower ↦ inl (inr lower) ]

pub name_is : (b : ℕ) → is_name_byte b ≡ true → IsNameByte b
name_is b e =
    elim (is_letter b) as (λ v. is_letter b ≡ v → IsNameByte b) [
      | true ↦ λ l. letter_byte b l
      | false ↦ λ l. (elim (is_digit b) as (λ v. is_digit b ≡ v → IsNameByte b) [
        | true ↦ λ d. inl (inl (inl (digit_range b d)))
        | false ↦ λ d. inr (name_rest b l d e)
      ] refl)
    ] refl

pub letter : (b : ℕ) → IsAsciiAlphabetic b → is_letter b ≡ true
letter b h = grind (arith, common_steps)

pub digit_is_name : (b : ℕ) → is_digit b ≡ true → is_name_byte b ≡ true
digit_is_name b e = is_name b (inl (inl (inl (digit_range b e))))

pub hex_is_name : (b : ℕ) → is_hex_digit b ≡ true → is_name_byte b ≡ true
hex_is_name b e = grind (arith, common_steps)

pub name_passes : (name : List ℕ) → EachIndex name (λ k. IsNameByte (slice_index name k)) → Passes is_name_byte name
name_passes name each = each_passes is_name_byte IsNameByte is_name name each
