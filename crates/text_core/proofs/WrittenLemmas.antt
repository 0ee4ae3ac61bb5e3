-- The digits of written numbers, read back.
use Rattle.std.proofs.Common.{◌≡◌, ℕ, zero, suc, ◌+◌, ◌*◌, ◌/◌, ◌%◌, ◌^◌, ◌<◌, ◌≤◌, Bool, true, false, cond, List, [], ◌∷◌, ◌++◌, length, get_or, inl, inr, refl, sym, ◌∙◌, ap, arith, decimal, length-append, zero-mul, mul_assoc, add-one, not, ◌&&◌, nat_lt, ◌-◌, ◌==◌}
use Rattle.std.proofs.lemmas.Bool.{lt-ltb, le-ltb}
use Rattle.std.proofs.Math.Nat.{pow-succ', pow-zero, add-mul}
use Rattle.std.proofs.lemmas.Fmt.{decimal_by_steps, digits_is_IsNumeral}
use Rattle.std.proofs.lemmas.Grind.{common_steps}
use Rattle.std.specs.Char.{digit_value as std_digit_value}
use Rattle.std.specs.Fmt.{digits, digits_onto, digit_glyph}
use Rattle.std.specs.Str.Parse.{AllDigits, digits_value_after}
use Rattle.lists.specs.laws.NumberLaws.{times_one_is, grouped_times}
use Rattle.text_core.specs.Numbers.{value_of, digit_value, hex_text, IsHex, IsDecimal, IsDigit}
use Rattle.text_core.specs.Scan.{is_from, is_digit, is_hex_digit}
use Rattle.text_core.proofs.RunLemmas.{Passes, passes_each}
use Rattle.text_core.proofs.ByteLemmas.{digit_is, hex_is}

-- one byte more
passes_more : (q : ℕ → Bool) (xs : List ℕ) (x : ℕ) → Passes q xs → q x ≡ true → Passes q (xs ++ x ∷ [])
passes_more q [] x all h = (h, tt)
passes_more q (y ∷ ys) x all h = (all.0, passes_more q ys x all.1 h)

pub value_more : (base : ℕ) (ds : List ℕ) (c : ℕ) → value_of base (ds ++ c ∷ []) ≡ value_of base ds * base + digit_value c
value_more base [] c = times_one_is (digit_value c) (base ^ 0) base (pow-zero base)
value_more base (d ∷ ds) c =
    (λ i. digit_value d * base ^ (length-append ds (c ∷ []) i) + value_more base ds c i)
    ∙ ap (λ q. digit_value d * q + (value_of base ds * base + digit_value c)) (ap (λ n. base ^ n) (add-one (length ds)) ∙ pow-succ' base (length ds))
    ∙ grouped_times (digit_value d) base (base ^ length ds) (value_of base ds) (digit_value c)

from_true : (first last b : ℕ) → first ≤ b → b ≤ last → is_from first last b ≡ true
from_true first last b h k = λ i. not (le-ltb b first h i) && not (le-ltb last b k i)

pub record IsDigits (q : ℕ → Bool) (base n : ℕ) (ds : List ℕ) : Type 0 where
  pub some : 0 < length ds
  pub pass : Passes q ds
  pub value : value_of base ds ≡ n

pub digit_of : (d : ℕ) → d < 10 → digit_value (48 + d) ≡ d
digit_of d h = (λ i. cond (lt-ltb (48 + d) 58 (omega arith) i) (48 + d - 48) (cond (nat_lt (48 + d) 71) (48 + d - 55) (48 + d - 87))) ∙ omega arith

pub decimal_digits : (n : ℕ) → n < 2 ^ 64 → IsDigits is_digit 10 n (decimal n)
decimal_digits n h = decimal_by_steps (IsDigits is_digit 10) one more n h
  where
    one : (n : ℕ) → n < 10 → IsDigits is_digit 10 n ((48 + n) ∷ [])
    one n h = record {
      some = omega arith;
      pass = (from_true 48 57 (48 + n) (omega arith) (omega arith), tt);
      value = value_more 10 [] (48 + n) ∙ ap (λ d. 0 * 10 + d) (digit_of n h) ∙ omega arith;
    }

    more : (n : ℕ) (ds : List ℕ) → 10 ≤ n → IsDigits is_digit 10 (n / 10) ds → IsDigits is_digit 10 n (ds ++ ((48 + n % 10) ∷ []))
    more n ds h i = record {
      some = omega (arith, length-append ds ((48 + n % 10) ∷ []));
      pass = passes_more is_digit ds (48 + n % 10) i.pass (from_true 48 57 (48 + n % 10) (omega arith) (omega arith));
      value = value_more 10 ds (48 + n % 10) ∙ (λ j. i.value j * 10 + digit_of (n % 10) (omega arith) j) ∙ omega arith;
    }

-- ---- hexadecimal digits

hex_byte : (c : ℕ) → std_digit_value c < 16 → (is_hex_digit c ≡ true) × (digit_value c ≡ std_digit_value c)
hex_byte c h = (grind (arith, common_steps), grind (arith, common_steps))

hex_value : (ds : List ℕ) (n : ℕ) → AllDigits 16 ds → digits_value_after 16 n ds ≡ n * 16 ^ length ds + value_of 16 ds
hex_value [] n all = sym (ap (λ p. n * p + 0) (pow-zero 16) ∙ omega arith)
hex_value (c ∷ cs) n all =
    hex_value cs (n * 16 + std_digit_value c) all.1
    ∙ ap (λ d. (n * 16 + d) * 16 ^ length cs + value_of 16 cs) (sym (hex_byte c all.0).1)
    ∙ grouped n (digit_value c) (16 ^ length cs) (value_of 16 cs)
    ∙ ap (λ p. n * p + (digit_value c * 16 ^ length cs + value_of 16 cs)) (sym (pow-succ' 16 (length cs)))
  where
    grouped : (n d p v : ℕ) → (n * 16 + d) * p + v ≡ n * (16 * p) + (d * p + v)
    grouped n d p v = let e : n * 16 * p ≡ n * (16 * p) = mul_assoc n 16 p in omega (arith, e, add-mul (n * 16) d p)

hex_pass : (ds : List ℕ) → AllDigits 16 ds → Passes is_hex_digit ds
hex_pass [] all = tt
hex_pass (c ∷ cs) all = ((hex_byte c all.0).0, hex_pass cs all.1)

pub hex_digits : (n : ℕ) → n < 16 ^ 64 → IsDigits is_hex_digit 16 n (digits 16 false n)
hex_digits n h =
    let both = digits_is_IsNumeral 16 false (omega arith) (omega arith) n h in
    record {
      some = both.0.0;
      pass = hex_pass (digits 16 false n) both.0.1;
      value = none (value_of 16 (digits 16 false n)) (16 ^ length (digits 16 false n)) ∙ sym (hex_value (digits 16 false n) 0 both.0.1) ∙ both.1;
    }
  where
    none : (v p : ℕ) → v ≡ 0 * p + v
    none v p = omega (arith, zero-mul p)

pub hex_digits_64 : (n : ℕ) → n < 2 ^ 64 → IsDigits is_hex_digit 16 n (digits 16 false n)
hex_digits_64 n h = hex_digits n (omega (arith, h))

-- ---- read back

pub hex_back : (n : ℕ) → n < 16 ^ 64 → IsHex (hex_text n) n
hex_back n less =
    let is = hex_digits n less in
    (digits 16 false n, refl, (is.some, passes_each is_hex_digit (IsDigit 16) hex_is (digits 16 false n) is.pass), sym is.value)

pub decimal_back : (n : ℕ) → n < 2 ^ 64 → IsDecimal (decimal n) n
decimal_back n less =
    let is = decimal_digits n less in
    ((is.some, passes_each is_digit (IsDigit 10) digit_is (decimal n) is.pass), sym is.value)

-- each byte of a number prints, and is neither a blank nor a line feed
pub hex_bytes : (n : ℕ) → n < 16 ^ 64 → (i : ℕ) → i < length (hex_text n) → (48 ≤ get_or (hex_text n) i 0) × (get_or (hex_text n) i 0 ≤ 120)
hex_bytes n less zero within = (omega arith, omega arith)
hex_bytes n less (suc zero) within = (omega arith, omega arith)
hex_bytes n less (suc (suc i)) within = between (get_or (digits 16 false n) i 0) (passes_each is_hex_digit (IsDigit 16) hex_is (digits 16 false n) (hex_digits n less).pass i (omega (arith, within)))
  where
    between : (b : ℕ) → IsDigit 16 b → (48 ≤ b) × (b ≤ 120)
    between b is = elim is.0 [
      | inl low ↦ (low.0, omega (arith, low.1))
      | inr more ↦ elim more [ inl upper ↦ (omega (arith, upper.0), omega (arith, upper.1)) | inr lower ↦ (omega (arith, lower.0), omega (arith, lower.1)) ]
    ]

pub digits_short : (k n : ℕ) (rest : List ℕ) → length (digits_onto k 16 false n rest) ≤ k + length rest
digits_short zero n rest = omega arith
digits_short (suc k) n rest =
    let last : List ℕ = digit_glyph false (n % 16) ∷ rest in
    let more = digits_short k (n / 16) last in
    elim (n / 16 == 0) as (λ b. length (cond b last (digits_onto k 16 false (n / 16) last)) ≤ suc k + length rest) [
      | true ↦ omega arith
      | false ↦ omega (arith, more)
    ]

pub hex_short : (n : ℕ) → length (hex_text n) ≤ 66
unfolding digits
hex_short n = let short = digits_short 64 n [] in omega (arith, short)
