-- Laws of tests: whether numbers are equal or below each other, and whether texts are equal.
use Rattle.std.proofs.Common.{◌≡◌, ◌≢◌, ◌∙◌, ap, sym, refl, ℕ, suc, ◌<◌, ◌≤◌, Bool, true, false, cond, List, arith}
use Rattle.std.specs.Prelude.{◌==◌, nat_lt}
use Rattle.std.specs.Int.{bit_at}
use Rattle.std.specs.Str.{bytes_eq}
use Rattle.std.proofs.lemmas.Bool.{eqb-false}
use Rattle.std.proofs.lemmas.Bool.Decides.{nat_tests}
use Rattle.std.proofs.lemmas.Slice.Eq.{bytes_eq-Decides}

pub equal_itself : (n : ℕ) → (n == n) ≡ true
equal_itself n = grind (arith, nat_tests)

pub suc_not_zero : (n : ℕ) → (suc n == 0) ≡ false
suc_not_zero n = grind (arith, nat_tests)

pub some_if_not_zero : (n : ℕ) → false ≡ (n == 0) → 1 ≤ n
some_if_not_zero n e = let other : n ≡ 0 → ⊥ = eqb-false n 0 (sym e) in omega arith

pub not_less : (a b : ℕ) → b ≤ a → nat_lt a b ≡ false
not_less a b past = grind (arith, nat_tests)

pub below_if_less : (a b : ℕ) → nat_lt a b ≡ true → a < b
below_if_less a b e = grind (arith, nat_tests)

-- ---- choices by a test

pub chosen_equal : (m n x y : ℕ) → m ≡ n → cond (m == n) x y ≡ x
chosen_equal m n x y same = grind (arith, nat_tests)

pub chosen_other : (m n x y : ℕ) → m ≢ n → cond (m == n) x y ≡ y
chosen_other m n x y other = grind (arith, nat_tests)

pub chosen_below : (m n x y : ℕ) → m < n → cond (nat_lt m n) x y ≡ x
chosen_below m n x y less = grind (arith, nat_tests)

pub one_here : (n m : ℕ) → m ≡ n → ◌≡◌ {A = ℕ} (cond (m == n) 1 0) 1
one_here n m same = grind (arith, nat_tests)

pub none_here : (n m : ℕ) → m ≢ n → ◌≡◌ {A = ℕ} (cond (m == n) 1 0) 0
none_here n m other = grind (arith, nat_tests)

-- ---- texts and bits

pub other_bytes : (xs ys : List ℕ) → xs ≢ ys → bytes_eq xs ys ≡ false
other_bytes xs ys ne = elim (bytes_eq xs ys) as (λ b. bytes_eq xs ys ≡ b → b ≡ false) [ true ↦ λ e. absurd (ne ((bytes_eq-Decides xs ys).0 e)) | false ↦ λ e. refl ] refl

-- a bit of a number is that of an equal one
pub same_bit : (b v : Bool) (d e place : ℕ) → b ≡ v → v ≡ (bit_at d place == 1) → d ≡ e → b ≡ (bit_at e place == 1)
same_bit b v d e place first then same = first ∙ (then ∙ ap (λ x. bit_at x place == 1) same)
