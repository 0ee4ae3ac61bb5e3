-- Additive functions of words, and their values as sums of rows.
use Rattle.std.proofs.Common.{◌≡◌, ℕ, zero, suc, sym, ◌∙◌, ap, ap₂, ◌<◌, ◌^◌, ◌*◌, ◌/◌, ◌%◌, ◌+◌, arith, pow_pos, pow-suc, List, [], ◌∷◌, length, get_or, one-mul, zero-mul, add-one, add-zero, refl}
use Rattle.std.specs.Prelude.{bit_xor}
use Rattle.std.specs.Int.Bits.{xor_self, xor_comm, xor_block, xor_shifted}
use Rattle.std.proofs.lemmas.Nat.{mod-pow-add}
use native.Mathlib.Nat.{mod-one}
use Rattle.irreducible.specs.Span.{combination}
use Rattle.irreducible.specs.laws.SpanLaws.{combination-xor}

-- f of a sum is the sum of the values
pub record IsAdditive (f : ℕ → ℕ) : Type 0 where
  pub sum : (a b : ℕ) → f (bit_xor a b) ≡ bit_xor (f a) (f b)

pub IsAdditive-self : IsAdditive (λ x. x)
IsAdditive-self = record { sum = λ a b. refl }

pub IsAdditive-combination : (rows : List ℕ) → IsAdditive (combination rows)
IsAdditive-combination rows = record { sum = combination-xor rows }

pub additive_zero : (f : ℕ → ℕ) → IsAdditive f → f 0 ≡ 0
additive_zero f h = ap f (sym (xor_self 0)) ∙ h.sum 0 0 ∙ xor_self (f 0)

double_xor : (a b : ℕ) → bit_xor a b * 2 ≡ bit_xor (a * 2) (b * 2)
double_xor a b = sym (ap₂ bit_xor (sym (add-zero (a * 2))) (sym (add-zero (b * 2))) ∙ xor_block 1 a b 0 0 (pow_pos 1) (pow_pos 1) ∙ ap (λ x. bit_xor a b * 2 + x) (xor_self 0) ∙ add-zero (bit_xor a b * 2))

pub IsAdditive-double : (f : ℕ → ℕ) → IsAdditive f → IsAdditive (λ x. f (x * 2))
IsAdditive-double f h = record { sum = λ a b. ap f (double_xor a b) ∙ h.sum (a * 2) (b * 2) }

-- where f takes row i to the value of g at 2 to the i, it takes a sum of rows to the value of g at its choice
pub additive-combination : (rows : List ℕ) (f g : ℕ → ℕ) → IsAdditive f → IsAdditive g → ((i : ℕ) → i < length rows → f (get_or rows i 0) ≡ g (2 ^ i)) → (c : ℕ) → f (combination rows c) ≡ g (c % 2 ^ length rows)
additive-combination [] f g p h at c = additive_zero f p ∙ sym (additive_zero g h) ∙ ap g (sym (mod-one c))
additive-combination (r ∷ rs) f g p h at c =
    p.sum (c % 2 * r) (combination rs (c / 2))
    ∙ ap₂ bit_xor (first (c % 2) (omega arith))
    (additive-combination rs f (λ x. g (x * 2)) p (IsAdditive-double g h) (λ i l. at (suc i) (omega arith) ∙ ap g (pow-suc 2 i)) (c / 2))
    ∙ sym (h.sum (c % 2) (c / 2 % 2 ^ length rs * 2))
    ∙ ap g (xor_comm (c % 2) (c / 2 % 2 ^ length rs * 2) ∙ xor_shifted (c / 2 % 2 ^ length rs) 1 (c % 2) (omega arith) ∙ sym (ap (λ x. c % 2 ^ x) (sym (add-one (length rs))) ∙ mod-pow-add c (length rs) 1))
  where
    first : (b : ℕ) → b < 2 → f (b * r) ≡ g b
    first zero l = ap f (zero-mul r) ∙ additive_zero f p ∙ sym (additive_zero g h)
    first (suc zero) l = ap f (one-mul r) ∙ at 0 (omega arith)
    first (suc (suc b)) l = absurd (omega arith)

-- rows that are an additive function's values at the powers of 2 give its values
pub combination-additive : (rows : List ℕ) (g : ℕ → ℕ) → IsAdditive g → ((i : ℕ) → i < length rows → get_or rows i 0 ≡ g (2 ^ i)) → (c : ℕ) → combination rows c ≡ g (c % 2 ^ length rows)
combination-additive rows g h at c = additive-combination rows (λ x. x) g IsAdditive-self h at c
