-- Small worked examples of the definitions of specs/, which the check computes.
use Rattle.std.proofs.Common.{◌≡◌, ℕ, zero, suc, ◌<◌, [], ◌∷◌, codes, inl, inr, refl, ap, length, arith, slice_index}
use Rattle.text_core.specs.Lines.{before_comment, tokens_of}
use Rattle.text_core.specs.Numbers.{value_of, IsDigit, IsHex}
use Rattle.text_core.specs.Names.{IsNameByte, IsName}

-- the hexadecimal digits `00fF` have the value 15 * 16 + 15 = 255
value_of_00fF : value_of 16 (codes "00fF") ≡ 255
value_of_00fF = refl

-- the decimal digits `007` have the value 7
value_of_007 : value_of 10 (codes "007") ≡ 7
value_of_007 = refl

-- `0x00fF` stands for 255
is_hex_00fF : IsHex (codes "0x00fF") 255
is_hex_00fF = (codes "00fF", refl, (omega arith, each), refl)
  where
    each : (k : ℕ) → k < 4 → IsDigit 16 (slice_index (codes "00fF") k)
    each zero h = (inl (omega arith, omega arith), omega arith)
    each (suc zero) h = (inl (omega arith, omega arith), omega arith)
    each (suc (suc zero)) h = (inr (inr (omega arith, omega arith)), omega arith)
    each (suc (suc (suc zero))) h = (inr (inl (omega arith, omega arith)), omega arith)
    each (suc (suc (suc (suc k)))) h = absurd (omega arith)

-- `0x` without a digit stands for no number
no_hex : (n : ℕ) → IsHex (codes "0x") n → ⊥
no_hex n h =
    let long : 2 ≡ suc (suc (length h.0)) = ap length h.1 in
    let some : 0 < length h.0 = h.2.0 in
    omega arith

-- up to its first `#`, the line `a<tab>b  c #d` is `a<tab>b  c `
text_before_comment : before_comment (97 ∷ 9 ∷ codes "b  c #d") ≡ 97 ∷ 9 ∷ codes "b  c "
text_before_comment = refl

-- and its tokens are `a`, `b` and `c`
three_tokens : tokens_of (before_comment (97 ∷ 9 ∷ codes "b  c #d")) ≡ codes "a" ∷ codes "b" ∷ codes "c" ∷ []
three_tokens = refl

-- `A_1` is a name
is_name_A_1 : IsName (codes "A_1")
is_name_A_1 = record { some = omega arith; letter = inl (omega arith, omega arith); each = each; short = omega arith }
  where
    each : (k : ℕ) → k < 3 → IsNameByte (slice_index (codes "A_1") k)
    each zero h = inl (inl (inr (omega arith, omega arith)))
    each (suc zero) h = inr refl
    each (suc (suc zero)) h = inl (inl (inl (omega arith, omega arith)))
    each (suc (suc (suc k))) h = absurd (omega arith)

-- `1A` is no name, for it begins with a digit
no_name_1A : IsName (codes "1A") → ⊥
no_name_1A name = elim name.letter [ inl upper ↦ omega (arith, upper.0) | inr lower ↦ omega (arith, lower.0) ]
