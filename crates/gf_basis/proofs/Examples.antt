-- Small worked examples of the definitions of specs/, which the check computes. The field of four elements is that of
-- the modulus x^2 + x + 1, which is 7 as a number; in it 2 stands for x.
use Rattle.std.proofs.Common.{◌≡◌, ◌≢◌, ◌∙◌, sym, ℕ, zero, suc, ◌<◌, [], ◌∷◌, slice_index, refl, arith}
use Rattle.gf_field.specs.Bit.{bit_mul}
use Rattle.gf_field.specs.Quotient.{product}
use Rattle.gf_field.specs.Trace.{frobenius, trace}
use Rattle.irreducible.specs.Span.{combination}
use Rattle.gf_basis.specs.Basis.{AreBits, IsBasis}
use Rattle.gf_basis.specs.BasisFault.{IsListFault, conjugates_of}
use Rattle.gf_basis.specs.Dual.{AreDual, linear_value}
use Rattle.gf_basis.specs.declared.bases.BasisFault.TheVariants.{WrongCount, Dependent}

abbrev four : ℕ → ℕ → ℕ
four = product 1 2 bit_mul 7

-- of the elements 2 and 3 the bits 11 choose both, whose sum is 1
sum_of_both : AreBits (2 ∷ 3 ∷ []) 1 3
sum_of_both = record { short = omega arith; is = refl }

sums : (bits : ℕ) → bits < 4 → combination (1 ∷ 2 ∷ []) bits ≡ bits
sums zero h = refl
sums (suc zero) h = refl
sums (suc (suc zero)) h = refl
sums (suc (suc (suc zero))) h = refl
sums (suc (suc (suc (suc n)))) h = absurd (omega arith)

-- 1 and 2 are a basis of the field of four elements, in which an element is its own bits
powers_of_two : IsBasis 2 (1 ∷ 2 ∷ [])
powers_of_two = record {
  size = refl;
  inside = inside;
  sums = λ x below. record { choice = x; chosen = record { short = below; is = sums x below }; only = λ bits are. sym (sums bits are.short) ∙ are.is };
}
  where
    inside : (i : ℕ) → i < 2 → slice_index (1 ∷ 2 ∷ []) i < 4
    inside zero h = omega arith
    inside (suc zero) h = omega arith
    inside (suc (suc i)) h = absurd (omega arith)

-- 3 and 1 are dual to 1 and 2: 3 * 1 and 1 * 2 have the trace 1, 3 * 2 and 1 * 1 the trace 0
dual_of_powers : AreDual 2 four (1 ∷ 2 ∷ []) (3 ∷ 1 ∷ [])
unfolding product frobenius trace
dual_of_powers = record { size = refl; inside = inside; same = same; other = other }
  where
    inside : (i : ℕ) → i < 2 → slice_index (3 ∷ 1 ∷ []) i < 4
    inside zero h = omega arith
    inside (suc zero) h = omega arith
    inside (suc (suc i)) h = absurd (omega arith)

    same : (i : ℕ) → i < 2 → trace four 2 (four (slice_index (3 ∷ 1 ∷ []) i) (slice_index (1 ∷ 2 ∷ []) i)) ≡ 1
    same zero h = refl
    same (suc zero) h = refl
    same (suc (suc i)) h = absurd (omega arith)

    other : (i j : ℕ) → i < 2 → j < 2 → i ≢ j → trace four 2 (four (slice_index (3 ∷ 1 ∷ []) i) (slice_index (1 ∷ 2 ∷ []) j)) ≡ 0
    other zero zero h g apart = absurd (apart refl)
    other zero (suc zero) h g apart = refl
    other (suc zero) zero h g apart = refl
    other (suc zero) (suc zero) h g apart = absurd (apart refl)
    other zero (suc (suc j)) h g apart = absurd (omega arith)
    other (suc zero) (suc (suc j)) h g apart = absurd (omega arith)
    other (suc (suc i)) j h g apart = absurd (omega arith)

-- the conjugates of 2 are 2 and 3
conjugates_of_two : conjugates_of 2 four 2 ≡ 2 ∷ 3 ∷ []
unfolding product frobenius
conjugates_of_two = refl

-- 3 * x + 2 * x^2, which is bit 0 of x over 1 and 2, is 1 at 3
bit_of_three : linear_value 2 four (3 ∷ 2 ∷ []) 3 ≡ 1
unfolding product frobenius
bit_of_three = refl

-- and is 0 at 2
bit_of_two : linear_value 2 four (3 ∷ 2 ∷ []) 2 ≡ 0
unfolding product frobenius
bit_of_two = refl

-- three numbers are no basis of two bits
three_are_too_many : IsListFault 2 (1 ∷ 2 ∷ 3 ∷ []) (WrongCount 3)
three_are_too_many = (λ e. absurd (omega arith), refl)

-- 3 and 3 are dependent, for their sum is 0
dependent : IsListFault 2 (3 ∷ 3 ∷ []) Dependent
dependent = (refl, inside, λ free. let none : ◌≡◌ {A = ℕ} 3 0 = free.only_zero 3 (omega arith) refl in omega (arith, none))
  where
    inside : (i : ℕ) → i < 2 → slice_index (3 ∷ 3 ∷ []) i < 4
    inside zero h = omega arith
    inside (suc zero) h = omega arith
    inside (suc (suc i)) h = absurd (omega arith)
