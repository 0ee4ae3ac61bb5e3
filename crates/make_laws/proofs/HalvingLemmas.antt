-- Division by x.
use Rattle.std.proofs.Common.{◌≡◌, ℕ, zero, suc, refl, sym, ◌∙◌, ap, ap₂, ◌<◌, ◌^◌, ◌*◌, ◌/◌, ◌%◌, inl, inr, arith, one-mul, zero-mul, pow_pos, pow-suc}
use Rattle.std.specs.Prelude.{bit_xor}
use Rattle.std.specs.Int.{bit_at}
use Rattle.std.specs.Int.Bits.{xor_self, xor_zero_l, xor_zero_r, xor_assoc, xor_lt}
use Rattle.std.proofs.lemmas.Nat.Bits.{bit_at-suc, bit_at_above, bit_at_lowest}
use Rattle.lists.specs.laws.NumberLaws.{bit_cases, half_of_even}
use Rattle.lists.specs.laws.PowerLaws.{half_below_pow}
use Rattle.lists.specs.laws.XorLaws.{bit_at-sum}
use Rattle.gf_field.specs.Bit.{bit_mul}
use Rattle.gf_field.specs.Modulus.{IsModulus}
use Rattle.gf_field.specs.Quotient.{product}
use Rattle.gf_field.specs.laws.ModulusLaws.{modulus_below, IsMonic-from_modulus}
use Rattle.gf_field.proofs.ShiftAndAddLaws.{times_x_reduced, times_x_doubled}
use Rattle.make_laws.specs.Indeterminate.{x_of}
use Rattle.make_laws.proofs.Halving.{halved}
use Rattle.make_laws.proofs.BitLemmas.{bit_at-times}
use Rattle.make_laws.proofs.IndeterminateLemmas.{x_times}

-- the bits of the quotient
pub bit_at-halved : (g u j : ℕ) → bit_at (halved g u) j ≡ bit_xor (bit_at u (suc j)) (u % 2 * bit_at g (suc j))
bit_at-halved g u j =
    sym (bit_at-suc (bit_xor u (u % 2 * g)) j)
    ∙ bit_at-sum u (u % 2 * g) (suc j)
    ∙ ap (bit_xor (bit_at u (suc j))) (bit_at-times (u % 2) g (suc j) (omega arith))

-- the leading coefficient
pub top_bit : (k g : ℕ) → IsModulus k g → bit_at g k ≡ 1
top_bit k g ok = ap (λ i. g / 2 ^ i % 2) (sym (one-mul k)) ∙ (IsMonic-from_modulus k g ok).leading

pub halved_below : (k g u : ℕ) → IsModulus k g → u < 2 ^ k → halved g u < 2 ^ k
halved_below k g u ok h = half_below_pow k (bit_xor u (u % 2 * g)) (xor_lt (suc k) u (u % 2 * g) (wider h) (times_bit (u % 2) (omega arith)))
  where
    wider : u < 2 ^ k → u < 2 ^ suc k
    wider l = omega (arith, l, pow-suc 2 k)

    times_bit : (t : ℕ) → t < 2 → t * g < 2 ^ suc k
    times_bit t l = elim (bit_cases t l) [
      | inl z ↦ rw (z, zero-mul g) (pow_pos (suc k))
      | inr o ↦ rw (o, one-mul g) (modulus_below k g ok)
    ]

-- x times the quotient
pub x_halved : (k g u : ℕ) → IsModulus k g → g % 2 ≡ 1 → u < 2 ^ k → product 1 k bit_mul g (x_of k g) (halved g u) ≡ u
x_halved zero g u ok odd h = absurd (omega (arith, ok.some))
x_halved (suc e) g u ok odd h = x_times (suc e) g (halved g u) ok (halved_below (suc e) g u ok h) ∙ elim (bit_cases (u % 2) (omega arith)) [
  | inl z ↦ times_x_doubled e g ok (halved g u) (halved_below (suc e) g u ok h) (top z ∙ ap (λ t. t * 1) z ∙ zero-mul 1) ∙ half_of_even (bit_xor u (u % 2 * g)) (last ∙ ap (λ t. bit_xor t (t * 1)) z ∙ refl) ∙ ap (bit_xor u) (ap (λ t. t * g) z ∙ zero-mul g) ∙ xor_zero_r u
  | inr o ↦
      times_x_reduced e g ok (halved g u) (halved_below (suc e) g u ok h) (top o ∙ ap (λ t. t * 1) o ∙ refl)
      ∙ ap (λ v. bit_xor v g) (half_of_even (bit_xor u (u % 2 * g)) (last ∙ ap (λ t. bit_xor t (t * 1)) o ∙ refl) ∙ ap (λ t. bit_xor u (t * g)) o ∙ ap (bit_xor u) (one-mul g))
      ∙ xor_assoc u g g ∙ ap (bit_xor u) (xor_self g) ∙ xor_zero_r u
]
  where
    top : {t : ℕ} → u % 2 ≡ t → halved g u / 2 ^ e % 2 ≡ u % 2 * 1
    top is =
        bit_at-halved g u e
        ∙ ap₂ (λ p q. bit_xor p (u % 2 * q)) (bit_at_above u (suc e) (suc e) h (omega arith)) (top_bit (suc e) g ok)
        ∙ xor_zero_l (u % 2 * 1)

    last : bit_xor u (u % 2 * g) % 2 ≡ bit_xor (u % 2) (u % 2 * 1)
    last =
        sym (bit_at_lowest (bit_xor u (u % 2 * g)))
        ∙ bit_at-sum u (u % 2 * g) 0
        ∙ ap₂ bit_xor (bit_at_lowest u) (bit_at-times (u % 2) g 0 (omega arith) ∙ ap (λ t. u % 2 * t) (bit_at_lowest g ∙ odd))
