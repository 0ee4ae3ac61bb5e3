-- A modulus over 0 and 1 is a number between two powers of 2, is monic, and makes a ring.
use Rattle.std.proofs.Common.{◌≡◌, ℕ, zero, suc, sym, ◌∙◌, ap, ◌<◌, ◌≤◌, ◌^◌, ◌*◌, ◌/◌, ◌%◌, inl, inr, arith, one-mul, mul_comm, le_trans, le_of_eq, lt_of_lt_of_le, pow-suc, pow_mono, subst}
use Rattle.std.proofs.lemmas.Bool.{cases_lt}
use native.Mathlib.Nat.{div-eq_of_lt-le}
use Rattle.lists.specs.laws.NumberLaws.{bit_cases}
use Rattle.gf_field.specs.Ring.{IsRing}
use Rattle.gf_field.specs.Bit.{bit_mul}
use Rattle.gf_field.specs.Modulus.{IsModulus, HasModulusDegree}
use Rattle.gf_field.specs.Polynomial.{coefficient, IsMonic}
use Rattle.gf_field.specs.Quotient.{product}
use Rattle.gf_field.specs.laws.BitLaws.{IsRing-bit_mul}
use Rattle.gf_field.specs.laws.PackingLaws.{coefficient_ends, coefficient_below, below_from_ends}
use Rattle.gf_field.specs.laws.QuotientRingLaws.{IsRing-product}

pub IsModulus-from_bounds : (d g : ℕ) → 1 ≤ d → d ≤ 64 → 2 ^ d ≤ g → g < 2 ^ suc d → IsModulus d g
IsModulus-from_bounds d g some small low high = record {
  some = some;
  small = small;
  degree = record {
    leading = λ z. differ (sym top ∙ z);
    last = coefficient_ends 1 (suc d) g (rw one-mul high);
  };
}
  where
    top : coefficient 1 g d ≡ 1
    top = ap (λ x. g / 2 ^ x % 2) (one-mul d) ∙ ap (λ x. x % 2) (div-eq_of_lt-le (2 ^ d) (le_trans (le_of_eq (one-mul (2 ^ d))) low) (lt_of_lt_of_le high (le_of_eq (pow-suc 2 d ∙ mul_comm (2 ^ d) 2))))

    differ : ◌≡◌ {A = ℕ} 1 0 → ⊥
    differ e = omega arith

module _ (d g : ℕ) (ok : IsModulus d g) where
  pub modulus_below : g < 2 ^ suc d
  modulus_below = subst (λ (x : ℕ). g < 2 ^ x) (one-mul (suc d)) (below_from_ends 1 (suc d) g (omega arith) ok.degree.last)

  pub modulus_above : 2 ^ d ≤ g
  modulus_above = elim (cases_lt g (2 ^ d)) [
    | inl less ↦ absurd (ok.degree.leading (coefficient_ends 1 d g (rw one-mul less) d (omega arith)))
    | inr le ↦ le
  ]

  pub IsMonic-from_modulus : IsMonic 1 d g
  IsMonic-from_modulus = record {
    leading = elim (bit_cases (coefficient 1 g d) (coefficient_below 1 g d)) [ inl z ↦ absurd (ok.degree.leading z) | inr o ↦ o ];
    last = ok.degree.last;
  }

  pub IsRing-from_modulus : IsRing d (product 1 d bit_mul g)
  IsRing-from_modulus = subst (λ (k : ℕ). IsRing k (product 1 d bit_mul g)) (one-mul d) (IsRing-product 1 d bit_mul g IsRing-bit_mul IsMonic-from_modulus ok.some (rw one-mul ok.small))

pub no_small_modulus : (g : ℕ) → g < 2 → HasModulusDegree g → ⊥
no_small_modulus g h m = let two : 2 ^ 1 ≤ 2 ^ m.0 = pow_mono m.1.some in let above : 2 ^ m.0 ≤ g = modulus_above m.0 g m.1 in omega arith

pub no_large_modulus : (e g : ℕ) → 64 < e → 2 ^ e ≤ g → HasModulusDegree g → ⊥
no_large_modulus e g h le m =
    let wide : 2 ^ suc m.0 ≤ 2 ^ e = pow_mono (let s : m.0 ≤ 64 = m.1.small in omega arith) in
    let below : g < 2 ^ suc m.0 = modulus_below m.0 g m.1 in
    omega arith

-- the logarithm of a number is the degree of its polynomial
pub IsModulus-from_log : (e g : ℕ) → 2 ≤ g → e ≤ 64 → 2 ^ e ≤ g → g < 2 * 2 ^ e → IsModulus e g
IsModulus-from_log zero g two small low high = absurd (omega arith)
IsModulus-from_log (suc e) g two small low high = IsModulus-from_bounds (suc e) g (omega arith) small low (omega (arith, high, pow-suc 2 (suc e)))
