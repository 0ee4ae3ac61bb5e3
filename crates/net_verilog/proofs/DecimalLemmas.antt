-- Decimal digits.
use Rattle.std.proofs.Common.{◌≡◌, refl, inl, ℕ, zero, suc, ◌<◌, ◌≤◌, Bool, true, false, List, [], ◌∷◌, length, get_or, None, Some, arith}
use Rattle.std.specs.Prelude.{nat_le, if◌then◌else◌}
use Rattle.std.specs.List.{list_all}
use Rattle.std.proofs.lemmas.Bool.{leb-true, lt-ltb, ltb-true}
use Rattle.lists.specs.laws.BoolLaws.{first_true as one, second_true as other}
use Rattle.text_core.specs.Numbers.{IsDecimal, IsDigit, value_of}
use Rattle.net_verilog.specs.Bytes.{is_digit}
use Rattle.net_verilog.specs.Words.{is_decimal}
use Rattle.net_verilog.specs.private.Decimals.{short}

is_is_digit : (b : ℕ) → is_digit b ≡ true → IsDigit 10 b
is_is_digit b is =
    let low : 48 ≤ b = leb-true 48 b (one _ _ is) in
    let high : b ≤ 57 = leb-true b 57 (other _ _ is) in
    small b low high
  where
    small : (b : ℕ) → 48 ≤ b → b ≤ 57 → IsDigit 10 b
    small b low high = (inl (low, high), rw (lt-ltb b 58 (omega (arith, high))) (omega (arith, low, high)))

each_digit : (word : List ℕ) → list_all is_digit word ≡ true → (k : ℕ) → k < length word → IsDigit 10 (get_or word k 0)
each_digit [] all k less = absurd (omega arith)
each_digit (b ∷ bs) all zero less = is_is_digit b (one _ _ all)
each_digit (b ∷ bs) all (suc k) less = each_digit bs (other _ _ all) k (omega arith)

-- decimal digits have their value
pub decimal_digits : (word : List ℕ) → is_decimal word ≡ true → IsDecimal word (value_of 10 word)
decimal_digits word is = ((ltb-true 0 (length word) (one _ _ is), each_digit word (other _ _ is)), refl)

-- where none was found, the value is not short
pub short_none : (word : List ℕ) → is_decimal word ≡ true → ((n : ℕ) → IsDecimal word n → n ≤ 4294967295 → ⊥) → None ≡ short (value_of 10 word)
short_none word is never = by (nat_le (value_of 10 word) 4294967295) refl
  where
    by : (b : Bool) → nat_le (value_of 10 word) 4294967295 ≡ b → None ≡ (if b then Some (value_of 10 word) else None)
    by false large = refl
    by true small = absurd (never (value_of 10 word) (decimal_digits word is) (leb-true (value_of 10 word) 4294967295 small))
