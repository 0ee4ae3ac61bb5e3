-- The exclusive or as a sum.
use Rattle.std.proofs.Common.{◌≡◌, ◌∙◌, ap, sym, ℕ, ◌<◌, ◌*◌, ◌%◌, ◌/◌, ◌^◌, inl, inr, zero-mul}
use Rattle.std.specs.Prelude.{bit_xor}
use Rattle.std.specs.Int.{bit_at}
use Rattle.std.specs.Int.Bits.{xor_assoc, xor_comm, xor_self, xor_zero_l, xor_zero_r, xor_shr, xor_mod}
use Rattle.lists.specs.laws.NumberLaws.{bit_cases}

pub xor_swap : (a b c : ℕ) → bit_xor a (bit_xor b c) ≡ bit_xor b (bit_xor a c)
xor_swap a b c = sym (xor_assoc a b c) ∙ ap (λ x. bit_xor x c) (xor_comm a b) ∙ xor_assoc b a c

pub xor_turn : (p q s : ℕ) → bit_xor (bit_xor p q) s ≡ bit_xor (bit_xor p s) q
xor_turn p q s = xor_assoc p q s ∙ ap (bit_xor p) (xor_comm q s) ∙ sym (xor_assoc p s q)

-- two sums of two, taken crosswise
pub xor_cross : (a b c d : ℕ) → bit_xor (bit_xor a b) (bit_xor c d) ≡ bit_xor (bit_xor a c) (bit_xor b d)
xor_cross a b c d = xor_assoc a b (bit_xor c d) ∙ ap (bit_xor a) (xor_swap b c d) ∙ sym (xor_assoc a c (bit_xor b d))

-- a number that is its own sum with another makes that one 0
pub xor_cancel : (a b : ℕ) → bit_xor a (bit_xor a b) ≡ b
xor_cancel a b = sym (xor_assoc a a b) ∙ ap (λ x. bit_xor x b) (xor_self a) ∙ xor_zero_l b

pub xor_same : (a b : ℕ) → bit_xor a b ≡ 0 → a ≡ b
xor_same a b h = sym (xor_zero_r a) ∙ ap (bit_xor a) (sym h) ∙ xor_cancel a b

-- two sums with one number in common
pub xor_drop_pair : (a b e : ℕ) → bit_xor (bit_xor a b) (bit_xor a e) ≡ bit_xor b e
xor_drop_pair a b e = xor_cross a b a e ∙ ap (λ x. bit_xor x (bit_xor b e)) (xor_self a) ∙ xor_zero_l (bit_xor b e)

pub xor_drop_outer : (p q s : ℕ) → bit_xor (bit_xor p q) (bit_xor s p) ≡ bit_xor s q
xor_drop_outer p q s = ap (bit_xor (bit_xor p q)) (xor_comm s p) ∙ xor_drop_pair p q s ∙ xor_comm q s

-- ---- bits

pub bit_at-sum : (a b i : ℕ) → bit_at (bit_xor a b) i ≡ bit_xor (bit_at a i) (bit_at b i)
bit_at-sum a b i = ap (λ x. x % 2) (xor_shr a b i) ∙ xor_mod (a / 2 ^ i) (b / 2 ^ i) 1

-- a sum of two bits, times a number
pub bit_times : (a b r : ℕ) → a < 2 → b < 2 → bit_xor a b * r ≡ bit_xor (a * r) (b * r)
bit_times a b r ha hb = elim (bit_cases a ha) [
  | inl z ↦ rw (z, zero-mul) (ap (λ x. x * r) (xor_zero_l b) ∙ sym (xor_zero_l (b * r)))
  | inr o ↦ elim (bit_cases b hb) [
    | inl z ↦ rw (z, o) (sym (ap (bit_xor (1 * r)) (zero-mul r) ∙ xor_zero_r (1 * r)))
    | inr p ↦ rw (p, o) (zero-mul r ∙ sym (xor_self (1 * r)))
  ]
]
