-- 0 and 1 are a field, and a quotient over them is one exactly where its modulus is irreducible.
use Rattle.std.proofs.Common.{◌≡◌, ◌≢◌, ℕ, sym, ◌∙◌, ap₂, ◌<◌, ◌↔◌, arith, one-mul, subst}
use Rattle.gf_field.specs.Modulus.{IsModulus}
use Rattle.gf_field.specs.Bit.{bit_mul}
use Rattle.gf_field.specs.Field.{HasNoZeroDivisors}
use Rattle.gf_field.specs.Quotient.{product}
use Rattle.gf_field.specs.Polynomial.{IsIrreducible}
use Rattle.gf_field.specs.laws.BitLaws.{IsRing-bit_mul}
use Rattle.gf_field.specs.laws.IrreducibleLaws.{HasQuotientFields-from_field}
use Rattle.gf_field.specs.laws.ModulusLaws.{IsMonic-from_modulus}

HasNoZeroDivisors-bit_mul : HasNoZeroDivisors 1 bit_mul
HasNoZeroDivisors-bit_mul = record { nonzero = λ a b ha hb na nb e. at a b (one a ha na) (one b hb nb) e }
  where
    one : (a : ℕ) → a < 2 → a ≢ 0 → a ≡ 1
    one a h n = omega arith

    at : (a b : ℕ) → a ≡ 1 → b ≡ 1 → bit_mul a b ≡ 0 → ⊥
    at a b p q e = let k : ◌≡◌ {A = ℕ} 1 0 = sym (ap₂ bit_mul p q) ∙ e in omega arith

-- the quotient has no zero divisors exactly where the modulus is irreducible
pub field_by_modulus : (d g : ℕ) → IsModulus d g → HasNoZeroDivisors d (product 1 d bit_mul g) ↔ IsIrreducible 1 bit_mul g
field_by_modulus d g ok =
    subst (λ (k : ℕ). HasNoZeroDivisors k (product 1 d bit_mul g) ↔ IsIrreducible 1 bit_mul g) (one-mul d)
    (HasQuotientFields-from_field 1 bit_mul IsRing-bit_mul HasNoZeroDivisors-bit_mul d g ok.some (IsMonic-from_modulus d g ok))
