-- The field of 0 and 1, and quotients over it.
use Rattle.std.proofs.Common.{◌≡◌, ℕ, sym, ◌∙◌, ap, ap₂, ◌<◌, ◌*◌, ◌%◌, inl, inr, arith, one-mul, zero-mul, mul_comm, mul_assoc}
use Rattle.std.specs.Prelude.{bit_xor}
use Rattle.std.specs.Int.Bits.{xor_self, xor_mod}
use native.Mathlib.Nat.{mod-eq_of_lt}
use Rattle.lists.specs.laws.NumberLaws.{bit_cases}
use Rattle.gf_field.specs.Ring.{IsRing}
use Rattle.gf_field.specs.Bit.{bit_mul}

pub bit_mul_below : (a b : ℕ) → bit_mul a b < 2
bit_mul_below a b =
    elim (bit_cases (a % 2) (omega arith)) [
      | inl z ↦ rw (z, zero-mul) (omega arith)
      | inr o ↦ rw (o, one-mul) (omega arith)
    ]

bit_mul_distrib : (a b c : ℕ) → bit_mul a (bit_xor b c) ≡ bit_xor (bit_mul a b) (bit_mul a c)
bit_mul_distrib a b c =
    elim (bit_cases (a % 2) (omega arith)) [
      | inl z ↦ rw (z) (zero-mul _ ∙ sym (ap₂ bit_xor (zero-mul _) (zero-mul _) ∙ xor_self 0))
      | inr o ↦ rw (o) (one-mul _ ∙ xor_mod b c 1 ∙ sym (ap₂ bit_xor (one-mul _) (one-mul _)))
    ]

bit_mul_assoc : (a b c : ℕ) → bit_mul (bit_mul a b) c ≡ bit_mul a (bit_mul b c)
bit_mul_assoc a b c =
    ap (λ x. x * (c % 2)) (mod-eq_of_lt (bit_mul_below a b))
    ∙ mul_assoc (a % 2) (b % 2) (c % 2)
    ∙ ap (λ x. a % 2 * x) (sym (mod-eq_of_lt (bit_mul_below b c)))

pub IsRing-bit_mul : IsRing 1 bit_mul
IsRing-bit_mul = record {
  some = omega arith;
  small = omega arith;
  closed = bit_mul_below;
  comm = λ a b. mul_comm (a % 2) (b % 2);
  assoc = bit_mul_assoc;
  distrib = bit_mul_distrib;
  one = λ a h. one-mul (a % 2) ∙ mod-eq_of_lt h;
}
