-- Words: tables for all bits of the leaves at once.
use Rattle.std.proofs.Common.{◌≡◌, ◌≢◌, ◌∙◌, ap, sym, refl, inl, inr, subst, ℕ, zero, suc, ◌<◌, ◌≤◌, ◌+◌, ◌-◌, ◌*◌, ◌/◌, ◌%◌, ◌^◌, Bool, true, false, cond, min, List, length, arith, shr-shr}
use Rattle.std.specs.Prelude.{◌==◌}
use Rattle.std.specs.Int.{bit_at}
use Rattle.std.specs.Int.RustNames.{bit_and, bit_xor}
use Rattle.std.proofs.lemmas.Bool.{ne_eqb}
use Rattle.std.proofs.lemmas.Nat.Bits.{bit_at_and, bit_at_xor}
use Rattle.lists.specs.Lists.{Has}
use Rattle.lists.specs.laws.NumberLaws.{nat_eq_or}
use Rattle.net_core.specs.Value.{index_of}
use Rattle.net_simplify.specs.private.Lists.{bit_number}
use Rattle.net_simplify.proofs.FormLemmas.{bit_small}
use Rattle.net_simplify.proofs.HalfLemmas.{number_small}
use Rattle.net_simplify.proofs.ListLemmas.{has_cons}
use Rattle.net_simplify.proofs.StepLemmas.{first, parted, rest}

-- ---- words that are written down

-- the test holds for all numbers below one
abbrev pub all_below : (ℕ → Bool) → ℕ → Bool
all_below test zero = true
all_below test (suc n) = cond (test n) (all_below test n) false

below_all : (test : ℕ → Bool) (n : ℕ) → all_below test n ≡ true → (i : ℕ) → i < n → test i ≡ true
below_all test zero all i less = absurd (omega arith)
below_all test (suc n) all i less = by (test n) refl (λ before low. below_all test n before i low)
  where
    by : (b : Bool) → test n ≡ b → (all_below test n ≡ true → i < n → test i ≡ true) → test i ≡ true
    by true is below = elim (nat_eq_or i n) [
      | inl same ↦ ap test same ∙ is
      | inr apart ↦ below (sym (ap (λ c. cond c (all_below test n) false) is) ∙ all) (omega (arith, less, apart))
    ]
    by false is below = let never : false ≡ true = sym (ap (λ c. cond c (all_below test n) false) is) ∙ all in absurd (cc)

pub same_from_test : (a b : ℕ) → (a == b) ≡ true → a ≡ b
same_from_test a b is = elim (nat_eq_or a b) [
  | inl same ↦ same
  | inr apart ↦ let never : false ≡ true = sym (ne_eqb a b apart) ∙ is in absurd (cc)
]

-- a word with the bits of a rule, which is tried for all 64
pub word_by : (rule : ℕ → ℕ) (word : ℕ) → all_below (λ i. bit_at word i == rule i) 64 ≡ true → (i : ℕ) → i < 64 → bit_at word i ≡ rule i
word_by rule word all i less = same_from_test (bit_at word i) (rule i) (below_all (λ j. bit_at word j == rule j) 64 all i less)

pub place_words : (place word : ℕ) → all_below (λ i. bit_at word i == bit_at i place) 64 ≡ true → (i : ℕ) → i < 64 → bit_at word i ≡ bit_at i place
place_words place word all = word_by (λ i. bit_at i place) word all

pub clear_words : (place word : ℕ) → all_below (λ i. bit_at word i == 1 - bit_at i place) 64 ≡ true → (i : ℕ) → i < 64 → bit_at word i ≡ 1 - bit_at i place
clear_words place word all = word_by (λ i. 1 - bit_at i place) word all

-- bit i of a choice between two words
pub choice_bit : (choice high low i : ℕ) → bit_at (bit_xor low (bit_and choice (bit_xor low high))) i ≡ cond (bit_at choice i == 1) (bit_at high i) (bit_at low i)
choice_bit choice high low i =
    bit_at_xor low (bit_and choice (bit_xor low high)) i
    ∙ ap (λ x. (bit_at low i + x) % 2) (bit_at_and choice (bit_xor low high) i ∙ ap (λ x. min (bit_at choice i) x) (bit_at_xor low high i))
    ∙ by (bit_at choice i) (bit_at high i) (bit_at low i) (bit_small choice i) (bit_small high i) (bit_small low i)
  where
    by : (c h l : ℕ) → c < 2 → h < 2 → l < 2 → ◌≡◌ {A = ℕ} ((l + min c ((l + h) % 2)) % 2) (cond (c == 1) h l)
    by zero zero zero cs hs ls = refl
    by zero zero (suc zero) cs hs ls = refl
    by zero (suc zero) zero cs hs ls = refl
    by zero (suc zero) (suc zero) cs hs ls = refl
    by (suc zero) zero zero cs hs ls = refl
    by (suc zero) zero (suc zero) cs hs ls = refl
    by (suc zero) (suc zero) zero cs hs ls = refl
    by (suc zero) (suc zero) (suc zero) cs hs ls = refl
    by (suc (suc c)) h l cs hs ls = absurd (omega arith)
    by zero (suc (suc h)) l cs hs ls = absurd (omega arith)
    by (suc zero) (suc (suc h)) l cs hs ls = absurd (omega arith)
    by zero zero (suc (suc l)) cs hs ls = absurd (omega arith)
    by zero (suc zero) (suc (suc l)) cs hs ls = absurd (omega arith)
    by (suc zero) zero (suc (suc l)) cs hs ls = absurd (omega arith)
    by (suc zero) (suc zero) (suc (suc l)) cs hs ls = absurd (omega arith)

-- ---- words of leaves

pub leaf_here : (leaves : List ℕ) (leaf place word : ℕ) → 1 ≤ length leaves → first leaves ≡ leaf → ((i : ℕ) → i < 64 → bit_at word i ≡ bit_at i place) → (bits : List Bool) (i : ℕ) → i < 64 → i / 2 ^ place ≡ index_of bits leaves → bit_at word i ≡ bit_number bits leaf
leaf_here leaves leaf place word long same is bits i less at =
    let low : (bit_number bits (first leaves) + 2 * index_of bits (rest leaves)) % 2 ≡ bit_number bits (first leaves) = omega (arith, number_small bits (first leaves)) in
    is i less ∙ ap (λ x. x % 2) (at ∙ ap (index_of bits) (parted leaves long)) ∙ low ∙ ap (bit_number bits) same

pub leaf_later : (leaves : List ℕ) (leaf place word : ℕ) → 1 ≤ length leaves → first leaves ≢ leaf → ((bits : List Bool) (i : ℕ) → i < 64 → i / 2 ^ (place + 1) ≡ index_of bits (rest leaves) → Has (rest leaves) leaf → bit_at word i ≡ bit_number bits leaf)
    → (bits : List Bool) (i : ℕ) → i < 64 → i / 2 ^ place ≡ index_of bits leaves → Has leaves leaf → bit_at word i ≡ bit_number bits leaf
leaf_later leaves leaf place word long other is bits i less at has =
    let whole : i / 2 ^ place ≡ bit_number bits (first leaves) + 2 * index_of bits (rest leaves) = at ∙ ap (index_of bits) (parted leaves long) in
    let high : i / 2 ^ place / 2 ^ 1 ≡ index_of bits (rest leaves) = omega (arith, whole, number_small bits (first leaves)) in
    let P : List ℕ → Type 0 = λ xs. Has xs leaf in
    is bits i less (sym (shr-shr i place 1) ∙ high) (elim (has_cons (first leaves) (rest leaves) leaf (subst P (parted leaves long) has)) [ inl same ↦ absurd (other same) | inr later ↦ later ])
