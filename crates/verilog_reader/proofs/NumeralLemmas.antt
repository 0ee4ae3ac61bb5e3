-- Printed numbers: their digits and values.
use Rattle.std.proofs.Common.{◌≡◌, ◌∙◌, ap, ℕ, zero, suc, ◌+◌, ◌*◌, ◌-◌, ◌/◌, ◌%◌, ◌^◌, ◌<◌, ◌≤◌, ◌==◌, Bool, true, false, cond, List, [], ◌∷◌, ◌++◌, length, decimal, arith, length-append, ◌&&◌}
use Rattle.std.specs.Fmt.{digits, digits_onto, digit_glyph}
use Rattle.std.specs.List.{list_all}
use Rattle.std.proofs.lemmas.Bool.{lt-ltb, le-leb}
use Rattle.std.proofs.lemmas.Fmt.{decimal_by_steps}
use Rattle.text_core.specs.Numbers.{value_of}
use Rattle.net_verilog.specs.Bytes.{is_digit}
use Rattle.text_core.proofs.WrittenLemmas.{value_more, digit_of}

-- no byte is `[`
abbrev pub NoOpen : List ℕ → Type 0
NoOpen [] = Unit {0}
NoOpen (b ∷ bs) = (b ≡ 91 → ⊥) × NoOpen bs

glyph : (d : ℕ) → d < 10 → digit_glyph false d ≡ 91 → ⊥
glyph d small same =
    let is : digit_glyph false d ≡ 48 + d = ap (λ b. cond b (48 + d) (87 + d)) (lt-ltb d 10 small) in
    omega (arith, same, is, small)

onto : (k n : ℕ) (acc : List ℕ) → NoOpen acc → NoOpen (digits_onto k 10 false n acc)
onto zero n acc none = none
onto (suc k) n acc none =
    let more : NoOpen (digit_glyph false (n % 10) ∷ acc) = (glyph (n % 10) (omega arith), none) in
    either (n / 10 == 0) _ _ more (onto k (n / 10) _ more)
  where
    either : (b : Bool) (xs ys : List ℕ) → NoOpen xs → NoOpen ys → NoOpen (cond b xs ys)
    either true xs ys p q = p
    either false xs ys p q = q

-- digits are no `[`
pub digits_no_open : (n : ℕ) → NoOpen (decimal n)
unfolding digits
digits_no_open n = onto 64 n [] tt

is_a_digit : (d : ℕ) → d < 10 → is_digit (48 + d) ≡ true
is_a_digit d h = λ i. le-leb 48 (48 + d) (omega arith) i && le-leb (48 + d) 57 (omega (arith, h)) i

both : (x y z : Bool) → (x && y) ≡ true → (y ≡ true → z ≡ true) → (x && z) ≡ true
both true y z all more = more all
both false y z all more = absurd (cc)

all_more : (ds : List ℕ) (b : ℕ) → list_all is_digit ds ≡ true → is_digit b ≡ true → list_all is_digit (ds ++ b ∷ []) ≡ true
all_more [] b all one = ap (λ x. x && true) one
all_more (d ∷ ds) b all one = both (is_digit d) (list_all is_digit ds) (list_all is_digit (ds ++ b ∷ [])) all (λ rest. all_more ds b rest one)

record IsNumeral (n : ℕ) (ds : List ℕ) : Type 0 where
  some : 0 < length ds
  all : list_all is_digit ds ≡ true
  value : value_of 10 ds ≡ n

numeral : (n : ℕ) → n < 2 ^ 64 → IsNumeral n (decimal n)
numeral n h = decimal_by_steps IsNumeral one more n h
  where
    one : (n : ℕ) → n < 10 → IsNumeral n ((48 + n) ∷ [])
    one n h = record {
      some = omega arith;
      all = ap (λ x. x && true) (is_a_digit n h);
      value = value_more 10 [] (48 + n) ∙ ap (λ d. 0 * 10 + d) (digit_of n h) ∙ omega arith;
    }

    more : (n : ℕ) (ds : List ℕ) → 10 ≤ n → IsNumeral (n / 10) ds → IsNumeral n (ds ++ ((48 + n % 10) ∷ []))
    more n ds h i = record {
      some = omega (arith, length-append ds ((48 + n % 10) ∷ []));
      all = all_more ds (48 + n % 10) i.all (is_a_digit (n % 10) (omega arith));
      value = value_more 10 ds (48 + n % 10) ∙ (λ j. i.value j * 10 + digit_of (n % 10) (omega arith) j) ∙ omega arith;
    }
