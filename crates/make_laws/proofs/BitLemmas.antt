-- The bits of numbers, and sums of bits times numbers.
use Rattle.std.proofs.Common.{◌≡◌, ℕ, refl, sym, ◌∙◌, ap₂, ◌<◌, ◌^◌, ◌*◌, inl, inr, one-mul, zero-mul, pow_pos}
use Rattle.std.specs.Prelude.{bit_xor}
use Rattle.std.specs.Int.{bit_at}
use Rattle.std.specs.Int.Bits.{xor_self}
use Rattle.std.proofs.lemmas.Nat.Bits.{bit_at-zero}
use Rattle.lists.specs.laws.NumberLaws.{bit_cases}

-- a bit times a number is 0 or the number
pub bit_at-times : (t a i : ℕ) → t < 2 → bit_at (t * a) i ≡ t * bit_at a i
bit_at-times t a i h = elim (bit_cases t h) [
  | inl z ↦ rw (z, zero-mul a, zero-mul (bit_at a i)) (bit_at-zero i)
  | inr o ↦ rw (o, one-mul a, one-mul (bit_at a i)) refl
]

pub times_below : (k t a : ℕ) → t < 2 → a < 2 ^ k → t * a < 2 ^ k
times_below k t a h l = elim (bit_cases t h) [
  | inl z ↦ rw (z, zero-mul a) (pow_pos k)
  | inr o ↦ rw (o, one-mul a) l
]

pub times-xor : (t a b : ℕ) → t < 2 → t * bit_xor a b ≡ bit_xor (t * a) (t * b)
times-xor t a b h = elim (bit_cases t h) [
  | inl z ↦ rw z (zero-mul (bit_xor a b) ∙ sym (ap₂ bit_xor (zero-mul a) (zero-mul b) ∙ xor_self 0))
  | inr o ↦ rw o (one-mul (bit_xor a b) ∙ sym (ap₂ bit_xor (one-mul a) (one-mul b)))
]
