-- The computed token at the front of a text is the one that stands there.
use Rattle.std.proofs.Common.{◌≡◌, ◌∙◌, ap, sym, refl, subst, inl, inr, ℕ, zero, suc, ◌+◌, ◌-◌, ◌<◌, ◌≤◌, true, false, cond, ◌&&◌, List, [], ◌∷◌, ◌++◌, length, take, drop, codes, get_or, nat_lt, ◌==◌, Option, Some, None, arith}
use Rattle.std.specs.Prelude.{slice_index}
use Rattle.std.proofs.lemmas.Bool.{lt-ltb, eq-eqb, eqb-true}
use Rattle.std.proofs.lemmas.Bool.Decides.{nat_tests}
use Rattle.std.specs.Char.{IsAsciiAlphabetic}
use Rattle.std.proofs.lemmas.List.{length-take-le as length_taken}
use Rattle.std.proofs.Math.Seq.{take-length}
use Rattle.lists.specs.laws.BoolLaws.{both_true}
use Rattle.text_core.specs.Names.{IsName, IsNameByte}
use Rattle.text_core.specs.Numbers.{value_of, IsDigit, AreDigits, IsDecimal}
use Rattle.text_core.specs.Scan.{run, name_of, is_digit, is_hex_digit, is_letter, is_name_byte}
use Rattle.text_core.proofs.RunLemmas.{Passes, run_yes, run_within, run_pass, take_run, run_long, each_passes, passes_each, take_taken, taken_long, taken_short, taken_pass}
use Rattle.text_core.proofs.ByteLemmas.{letter, digit_range, range_digit, digit_is, hex_is, is_hex, letter_is, letter_byte, is_name, name_is, digit_high}
use Rattle.spec_text.specs.Token.{Token, name, hex, decimal, equals, plus, times, power, IsSpelling, IsFront, HasNoFront}
use Rattle.spec_text.specs.private.Scanning.{hex_run, number_front, front_of}
use Rattle.spec_text.proofs.TokenLemmas.{decimal_digit}
use Rattle.spec_text.proofs.TextTokenLemmas.{nothing}

-- what the first byte of a token is
FirstIs : Token → ℕ → Type 0
FirstIs (name n) b = is_letter b ≡ true
FirstIs (hex n) b = b ≡ 48
FirstIs (decimal n) b = is_digit b ≡ true
FirstIs equals b = b ≡ 61
FirstIs plus b = b ≡ 43
FirstIs times b = b ≡ 42
FirstIs power b = b ≡ 94

first_is : (b : ℕ) (bs : List ℕ) (u : Token) → IsSpelling (b ∷ bs) u → FirstIs u b
unfolding FirstIs
first_is b bs (name n) is = let P : List ℕ → Type 0 = IsName in letter b (subst P (sym is.0) is.1).letter
first_is b bs (hex n) is = ap (λ xs. get_or xs 0 0) is.1
first_is b bs (decimal n) is = let r = decimal_digit b (is.0.1 0 (omega arith)) in range_digit b r.0 r.1
first_is b bs equals is = ap (λ xs. get_or xs 0 0) is
first_is b bs plus is = ap (λ xs. get_or xs 0 0) is
first_is b bs times is = ap (λ xs. get_or xs 0 0) is
first_is b bs power is = ap (λ xs. get_or xs 0 0) is

letter_digit : (b : ℕ) → is_letter b ≡ true → is_digit b ≡ true → ⊥
letter_digit b l d = let a = letter_is b l in let r = digit_range b d in elim a [ inl i ↦ omega (arith, i.0, r.1) | inr i ↦ omega (arith, i.0, r.1) ]

low_letter : (b : ℕ) → is_letter b ≡ true → b < 65 → ⊥
low_letter b l low = elim (letter_is b l) [ inl i ↦ omega (arith, i.0, low) | inr i ↦ omega (arith, i.0, low) ]

caret_letter : (b : ℕ) → is_letter b ≡ true → b ≡ 94 → ⊥
caret_letter b l e = elim (letter_is b l) [ inl i ↦ omega (arith, i.1, e) | inr i ↦ omega (arith, i.0, e) ]

-- ---- hexadecimal digits after `0x`

hex_all : (digits : List ℕ) → AreDigits 16 digits → Passes is_hex_digit digits
hex_all digits are = each_passes is_hex_digit (IsDigit 16) is_hex digits are.1

hex_long : (bs : List ℕ) (m n : ℕ) → m ≤ length bs → IsSpelling (take m bs) (hex n) → (m ≤ length (hex_run bs) + 2) × (0 < length (hex_run bs))
hex_long bs zero n low is = absurd (omega (arith, ap length is.1))
hex_long [] (suc m) n low is = absurd (omega (arith, low))
hex_long (a ∷ bs) (suc zero) n low is = absurd (omega (arith, ap length is.1))
hex_long (a ∷ []) (suc (suc m)) n low is = absurd (omega (arith, low))
hex_long (a ∷ b ∷ rest) (suc (suc m)) n low is =
    let first : a ≡ 48 = ap (λ xs. get_or xs 0 0) is.1 in
    let second : b ≡ 120 = ap (λ xs. get_or xs 1 0) is.1 in
    let digits : take m rest ≡ is.0 = ap (λ xs. drop 2 xs) is.1 in
    let P : List ℕ → Type 0 = Passes is_hex_digit in
    let long : m ≤ length (run is_hex_digit rest) = run_long is_hex_digit rest m (omega (arith, low)) (subst P (sym digits) (hex_all is.0 is.2)) in
    let same : hex_run (a ∷ b ∷ rest) ≡ run is_hex_digit rest = λ i. cond (eq-eqb a 48 first i && eq-eqb b 120 second i) (run is_hex_digit rest) [] in
    let size : length (take m rest) ≡ m = length_taken m rest (omega (arith, low)) in
    (omega (arith, long, ap length same), omega (arith, long, ap length same, ap length digits, is.2.0, size))

-- what a text is whose run of hexadecimal digits is not empty
record HasHex (bs : List ℕ) : Type 0 where
  pub rest : List ℕ
  pub is : bs ≡ 48 ∷ 120 ∷ rest
  pub same : hex_run bs ≡ run is_hex_digit rest

has_hex : (bs : List ℕ) → 0 < length (hex_run bs) → HasHex bs
has_hex [] some = absurd (omega (arith, some))
has_hex (a ∷ []) some = absurd (omega (arith, some))
has_hex (a ∷ b ∷ rest) some =
    elim ((a == 48) && (b == 120)) as (λ v. ((a == 48) && (b == 120)) ≡ v → HasHex (a ∷ b ∷ rest)) [
      | true ↦ λ e. record {
        rest = rest;
        is = (let p = both_true (a == 48) (b == 120) e in λ i. eqb-true a 48 p.0 i ∷ eqb-true b 120 p.1 i ∷ rest);
        same = ap (λ v. cond v (run is_hex_digit rest) []) e;
      }
      | false ↦ λ e. absurd (omega (arith, some, ap (λ v. length (cond v (run is_hex_digit rest) [])) e))
    ] refl

hex_shape : (rest : List ℕ) → take (length (run is_hex_digit rest) + 2) (48 ∷ 120 ∷ rest) ≡ codes "0x" ++ run is_hex_digit rest
hex_shape rest =
    let two : length (run is_hex_digit rest) + 2 ≡ suc (suc (length (run is_hex_digit rest))) = omega arith in
    let taken : take (length (run is_hex_digit rest)) rest ≡ run is_hex_digit rest = take_run is_hex_digit rest (length (run is_hex_digit rest)) (omega arith) ∙ take-length (run is_hex_digit rest) in
    ap (λ n. take n (48 ∷ 120 ∷ rest)) two ∙ ap (λ (ys : List ℕ). 48 ∷ 120 ∷ ys) taken

hex_longest : (rest : List ℕ) (m : ℕ) (u : Token) → length (run is_hex_digit rest) + 2 < m → m ≤ length (48 ∷ 120 ∷ rest) → IsSpelling (take m (48 ∷ 120 ∷ rest)) u → ⊥
unfolding FirstIs
hex_longest rest zero u less low is = omega (arith, less)
hex_longest rest (suc zero) u less low is = omega (arith, less)
hex_longest rest (suc (suc m)) (hex n) less low is = omega (arith, less, (hex_long (48 ∷ 120 ∷ rest) (suc (suc m)) n low is).0)
hex_longest rest (suc (suc m)) (decimal n) less low is = let d = decimal_digit 120 (is.0.1 1 (omega arith)) in omega (arith, d.1)
hex_longest rest (suc (suc m)) (name n) less low is = low_letter 48 (first_is 48 (120 ∷ take m rest) (name n) is) (omega arith)
hex_longest rest (suc (suc m)) equals less low is = let e : 48 ≡ 61 = first_is 48 (120 ∷ take m rest) equals is in omega (arith, e)
hex_longest rest (suc (suc m)) plus less low is = let e : 48 ≡ 43 = first_is 48 (120 ∷ take m rest) plus is in omega (arith, e)
hex_longest rest (suc (suc m)) times less low is = let e : 48 ≡ 42 = first_is 48 (120 ∷ take m rest) times is in omega (arith, e)
hex_longest rest (suc (suc m)) power less low is = let e : 48 ≡ 94 = first_is 48 (120 ∷ take m rest) power is in omega (arith, e)

hex_front : (rest : List ℕ) → 0 < length (run is_hex_digit rest) → IsFront (48 ∷ 120 ∷ rest) (hex (value_of 16 (run is_hex_digit rest))) (length (run is_hex_digit rest) + 2)
hex_front rest some = record {
  within = omega (arith, run_within is_hex_digit rest);
  spelling = (run is_hex_digit rest, hex_shape rest, (some, passes_each is_hex_digit (IsDigit 16) hex_is (run is_hex_digit rest) (run_pass is_hex_digit rest)), refl);
  longest = hex_longest rest;
}

-- ---- decimal digits

decimal_front : (b : ℕ) (bs : List ℕ) → is_digit b ≡ true → (0 < length (hex_run (b ∷ bs)) → ⊥) → IsFront (b ∷ bs) (decimal (value_of 10 (run is_digit (b ∷ bs)))) (length (run is_digit (b ∷ bs)))
unfolding FirstIs
decimal_front b bs d no_hex = record { within = run_within is_digit (b ∷ bs); spelling = spelling; longest = longest }
  where
    taken : take (length (run is_digit (b ∷ bs))) (b ∷ bs) ≡ run is_digit (b ∷ bs)
    taken = take_run is_digit (b ∷ bs) (length (run is_digit (b ∷ bs))) (omega arith) ∙ take-length (run is_digit (b ∷ bs))

    spelling : IsSpelling (take (length (run is_digit (b ∷ bs))) (b ∷ bs)) (decimal (value_of 10 (run is_digit (b ∷ bs))))
    spelling =
        let P : List ℕ → Type 0 = λ xs. IsDecimal xs (value_of 10 (run is_digit (b ∷ bs))) in
        subst P (sym taken) ((omega (arith, ap length (run_yes is_digit b bs d)), passes_each is_digit (IsDigit 10) digit_is (run is_digit (b ∷ bs)) (run_pass is_digit (b ∷ bs))), refl)

    is_dec : (c : ℕ) → IsDigit 10 c → is_digit c ≡ true
    is_dec c h = let r = decimal_digit c h in range_digit c r.0 r.1

    longest : (m : ℕ) (u : Token) → length (run is_digit (b ∷ bs)) < m → m ≤ length (b ∷ bs) → IsSpelling (take m (b ∷ bs)) u → ⊥
    longest zero u less low is = omega (arith, less)
    longest (suc m) (hex n) less low is = no_hex (hex_long (b ∷ bs) (suc m) n low is).1
    longest (suc m) (decimal n) less low is = omega (arith, less, run_long is_digit (b ∷ bs) (suc m) low (each_passes is_digit (IsDigit 10) is_dec (take (suc m) (b ∷ bs)) is.0.1))
    longest (suc m) (name n) less low is = letter_digit b (first_is b (take m bs) (name n) is) d
    longest (suc m) equals less low is = let e : b ≡ 61 = first_is b (take m bs) equals is in omega (arith, e, (digit_range b d).1)
    longest (suc m) plus less low is = let e : b ≡ 43 = first_is b (take m bs) plus is in omega (arith, e, (digit_range b d).0)
    longest (suc m) times less low is = let e : b ≡ 42 = first_is b (take m bs) times is in omega (arith, e, (digit_range b d).0)
    longest (suc m) power less low is = let e : b ≡ 94 = first_is b (take m bs) power is in omega (arith, e, (digit_range b d).1)

number_is : (b : ℕ) (bs : List ℕ) → is_digit b ≡ true → IsFront (b ∷ bs) (number_front (b ∷ bs)).0 (number_front (b ∷ bs)).1
number_is b bs d =
    let text : List ℕ = b ∷ bs in
    let H : Token × ℕ = (hex (value_of 16 (hex_run text)), length (hex_run text) + 2) in
    let D : Token × ℕ = (decimal (value_of 10 (run is_digit text)), length (run is_digit text)) in
    elim (nat_lt 0 (length (hex_run text))) as (λ v. nat_lt 0 (length (hex_run text)) ≡ v → IsFront text (cond v H D).0 (cond v H D).1) [
      | true ↦ λ e.
          let has = has_hex text (positive (length (hex_run text)) e) in
          let P : List ℕ → Type 0 = λ ds. IsFront text (hex (value_of 16 ds)) (length ds + 2) in
          let Q : List ℕ → Type 0 = λ bs. IsFront bs (hex (value_of 16 (run is_hex_digit has.rest))) (length (run is_hex_digit has.rest) + 2) in
          subst P (sym has.same) (subst Q (sym has.is) (hex_front has.rest (omega (arith, positive (length (hex_run text)) e, ap length has.same))))
      | false ↦ λ e. decimal_front b bs d (λ some. let bad : true ≡ false = sym (lt-ltb 0 (length (hex_run text)) some) ∙ e in cc)
    ] refl
  where
    positive : (n : ℕ) → nat_lt 0 n ≡ true → 0 < n
    positive n e = grind (arith, nat_tests)

-- ---- names

name_front : (b : ℕ) (bs : List ℕ) → is_letter b ≡ true → IsFront (b ∷ bs) (name (name_of (b ∷ bs))) (length (name_of (b ∷ bs)))
unfolding FirstIs
name_front b bs l = record { within = within; spelling = spelling; longest = longest }
  where
    size : (length (name_of (b ∷ bs)) ≤ 255) × (length (name_of (b ∷ bs)) ≤ length (run is_name_byte (b ∷ bs)))
    size = taken_short 255 (run is_name_byte (b ∷ bs))

    within : length (name_of (b ∷ bs)) ≤ length (b ∷ bs)
    within = omega (arith, size.1, run_within is_name_byte (b ∷ bs))

    taken : take (length (name_of (b ∷ bs))) (b ∷ bs) ≡ name_of (b ∷ bs)
    taken = take_run is_name_byte (b ∷ bs) (length (name_of (b ∷ bs))) size.1 ∙ take_taken 255 (run is_name_byte (b ∷ bs))

    first : run is_name_byte (b ∷ bs) ≡ b ∷ run is_name_byte bs
    first = run_yes is_name_byte b bs (is_name b (letter_byte b l))

    is_a_name : IsName (name_of (b ∷ bs))
    is_a_name = record {
      some = omega (arith, taken_long 255 1 (run is_name_byte (b ∷ bs)) (omega arith) (omega (arith, ap length first)));
      letter = (let P : List ℕ → Type 0 = λ xs. IsAsciiAlphabetic (slice_index (take 255 xs) 0) in subst P (sym first) (letter_is b l));
      each = passes_each is_name_byte IsNameByte name_is (name_of (b ∷ bs)) (taken_pass is_name_byte 255 (run is_name_byte (b ∷ bs)) (run_pass is_name_byte (b ∷ bs)));
      short = size.0;
    }

    spelling : IsSpelling (take (length (name_of (b ∷ bs))) (b ∷ bs)) (name (name_of (b ∷ bs)))
    spelling = (taken, is_a_name)

    longest : (m : ℕ) (u : Token) → length (name_of (b ∷ bs)) < m → m ≤ length (b ∷ bs) → IsSpelling (take m (b ∷ bs)) u → ⊥
    longest zero u less low is = omega (arith, less)
    longest (suc m) (name n) less low is =
        let P : List ℕ → Type 0 = IsName in
        let named = subst P (sym is.0) is.1 in
        let long : suc m ≤ length (run is_name_byte (b ∷ bs)) = run_long is_name_byte (b ∷ bs) (suc m) low (each_passes is_name_byte IsNameByte is_name (take (suc m) (b ∷ bs)) named.each) in
        let short : suc m ≤ 255 = omega (arith, named.short, length_taken (suc m) (b ∷ bs) low) in
        omega (arith, less, taken_long 255 (suc m) (run is_name_byte (b ∷ bs)) short long)
    longest (suc m) (hex n) less low is = low_letter b l (let e : b ≡ 48 = first_is b (take m bs) (hex n) is in omega (arith, e))
    longest (suc m) (decimal n) less low is = letter_digit b l (first_is b (take m bs) (decimal n) is)
    longest (suc m) equals less low is = low_letter b l (let e : b ≡ 61 = first_is b (take m bs) equals is in omega (arith, e))
    longest (suc m) plus less low is = low_letter b l (let e : b ≡ 43 = first_is b (take m bs) plus is in omega (arith, e))
    longest (suc m) times less low is = low_letter b l (let e : b ≡ 42 = first_is b (take m bs) times is in omega (arith, e))
    longest (suc m) power less low is = caret_letter b l (first_is b (take m bs) power is)

-- ---- signs

-- the token of one byte that no longer one begins with
module _ (b : ℕ) (t : Token) (one : (bs : List ℕ) → IsSpelling (b ∷ []) t) (no_letter : is_letter b ≡ true → ⊥) (no_digit : is_digit b ≡ true → ⊥) (no_zero : b ≡ 48 → ⊥) where
  sign_front : (bs : List ℕ) → IsFront (b ∷ bs) t 1
  unfolding FirstIs
  sign_front bs = record { within = omega arith; spelling = one bs; longest = longest }
    where
      one_byte : (m : ℕ) (code : ℕ) → suc m ≤ length (b ∷ bs) → 1 < suc m → take (suc m) (b ∷ bs) ≡ code ∷ [] → ⊥
      one_byte m code low less e = omega (arith, less, length_taken (suc m) (b ∷ bs) low, ap length e)

      longest : (m : ℕ) (u : Token) → 1 < m → m ≤ length (b ∷ bs) → IsSpelling (take m (b ∷ bs)) u → ⊥
      longest zero u less low is = omega (arith, less)
      longest (suc m) (name n) less low is = no_letter (first_is b (take m bs) (name n) is)
      longest (suc m) (hex n) less low is = no_zero (first_is b (take m bs) (hex n) is)
      longest (suc m) (decimal n) less low is = no_digit (first_is b (take m bs) (decimal n) is)
      longest (suc m) equals less low is = one_byte m 61 low less is
      longest (suc m) plus less low is = one_byte m 43 low less is
      longest (suc m) times less low is = one_byte m 42 low less is
      longest (suc m) power less low is = one_byte m 94 low less is

no_front : (b : ℕ) (bs : List ℕ) → (b == 61) ≡ false → (b == 43) ≡ false → (b == 42) ≡ false → (b == 94) ≡ false → is_digit b ≡ false → is_letter b ≡ false → HasNoFront (b ∷ bs)
unfolding FirstIs
no_front b bs e p t c d l zero u is = nothing u is
no_front b bs e p t c d l (suc m) (name n) is = let bad : true ≡ false = sym (first_is b (take m bs) (name n) is) ∙ l in cc
no_front b bs e p t c d l (suc m) (hex n) is =
    let first : b ≡ 48 = first_is b (take m bs) (hex n) is in
    let bad : true ≡ false = sym (range_digit b (omega (arith, first)) (omega (arith, first))) ∙ d in cc
no_front b bs e p t c d l (suc m) (decimal n) is = let bad : true ≡ false = sym (first_is b (take m bs) (decimal n) is) ∙ d in cc
no_front b bs e p t c d l (suc m) equals is = let bad : true ≡ false = sym (eq-eqb b 61 (first_is b (take m bs) equals is)) ∙ e in cc
no_front b bs e p t c d l (suc m) plus is = let bad : true ≡ false = sym (eq-eqb b 43 (first_is b (take m bs) plus is)) ∙ p in cc
no_front b bs e p t c d l (suc m) times is = let bad : true ≡ false = sym (eq-eqb b 42 (first_is b (take m bs) times is)) ∙ t in cc
no_front b bs e p t c d l (suc m) power is = let bad : true ≡ false = sym (eq-eqb b 94 (first_is b (take m bs) power is)) ∙ c in cc

-- ---- the token at the front

unfoldable pub IsFrontOf : List ℕ → Option (Token × ℕ) → Type 0
IsFrontOf bs None = HasNoFront bs
IsFrontOf bs (Some f) = IsFront bs f.0 f.1

sign_letter : (b : ℕ) → b ≤ 61 → is_letter b ≡ true → ⊥
sign_letter b low l = low_letter b l (omega (arith, low))

low_digit : (b : ℕ) → b ≤ 47 → is_digit b ≡ true → ⊥
low_digit b low d = omega (arith, low, (digit_range b d).0)

at_61 : (bs : List ℕ) → IsFront (61 ∷ bs) equals 1
at_61 bs = sign_front 61 equals (λ cs. refl) (sign_letter 61 (omega arith)) (digit_high 61 (omega arith)) (λ e. omega (arith, e)) bs

at_43 : (bs : List ℕ) → IsFront (43 ∷ bs) plus 1
at_43 bs = sign_front 43 plus (λ cs. refl) (sign_letter 43 (omega arith)) (low_digit 43 (omega arith)) (λ e. omega (arith, e)) bs

at_42 : (bs : List ℕ) → IsFront (42 ∷ bs) times 1
at_42 bs = sign_front 42 times (λ cs. refl) (sign_letter 42 (omega arith)) (low_digit 42 (omega arith)) (λ e. omega (arith, e)) bs

at_94 : (bs : List ℕ) → IsFront (94 ∷ bs) power 1
at_94 bs = sign_front 94 power (λ cs. refl) (λ l. caret_letter 94 l refl) (digit_high 94 (omega arith)) (λ e. omega (arith, e)) bs

moved : (b c : ℕ) (bs : List ℕ) (t : Token) → (b == c) ≡ true → IsFront (c ∷ bs) t 1 → IsFront (b ∷ bs) t 1
moved b c bs t e f = let P : ℕ → Type 0 = λ x. IsFront (x ∷ bs) t 1 in subst P (sym (eqb-true b c e)) f

pub front_is : (bs : List ℕ) → IsFrontOf bs (front_of bs)
unfolding IsFrontOf
front_is [] = none
  where
    none : HasNoFront []
    none zero u is = nothing u is
    none (suc m) u is = nothing u is
front_is (b ∷ bs) =
    let text : List ℕ = b ∷ bs in
    let L : Option (Token × ℕ) = cond (is_letter b) (Some (name (name_of text), length (name_of text))) None in
    let D : Option (Token × ℕ) = cond (is_digit b) (Some (number_front text)) L in
    let C : Option (Token × ℕ) = cond (b == 94) (Some (power, 1)) D in
    let T : Option (Token × ℕ) = cond (b == 42) (Some (times, 1)) C in
    let P : Option (Token × ℕ) = cond (b == 43) (Some (plus, 1)) T in
    elim (b == 61) as (λ v. (b == 61) ≡ v → IsFrontOf text (cond v (Some (equals, 1)) P)) [
      | true ↦ λ e. moved b 61 bs equals e (at_61 bs)
      | false ↦ λ not_e. (elim (b == 43) as (λ v. (b == 43) ≡ v → IsFrontOf text (cond v (Some (plus, 1)) T)) [
        | true ↦ λ e. moved b 43 bs plus e (at_43 bs)
        | false ↦ λ not_p. (elim (b == 42) as (λ v. (b == 42) ≡ v → IsFrontOf text (cond v (Some (times, 1)) C)) [
          | true ↦ λ e. moved b 42 bs times e (at_42 bs)
          | false ↦ λ not_t. (elim (b == 94) as (λ v. (b == 94) ≡ v → IsFrontOf text (cond v (Some (power, 1)) D)) [
            | true ↦ λ e. moved b 94 bs power e (at_94 bs)
            | false ↦ λ not_c. (elim (is_digit b) as (λ v. is_digit b ≡ v → IsFrontOf text (cond v (Some (number_front text)) L)) [
              | true ↦ λ d. number_is b bs d
              | false ↦ λ no_d. (elim (is_letter b) as (λ v. is_letter b ≡ v → IsFrontOf text (cond v (Some (name (name_of text), length (name_of text))) None)) [
                | true ↦ λ l. name_front b bs l
                | false ↦ λ no_l. no_front b bs not_e not_p not_t not_c no_d no_l
              ] refl)
            ] refl)
          ] refl)
        ] refl)
      ] refl)
    ] refl

pub front_some : (bs : List ℕ) (t : Token) (n : ℕ) → front_of bs ≡ Some (t, n) → IsFront bs t n
unfolding IsFrontOf
front_some bs t n e = let P : Option (Token × ℕ) → Type 0 = IsFrontOf bs in subst P e (front_is bs)

pub front_none : (bs : List ℕ) → front_of bs ≡ None → HasNoFront bs
unfolding IsFrontOf
front_none bs e = let P : Option (Token × ℕ) → Type 0 = IsFrontOf bs in subst P e (front_is bs)
