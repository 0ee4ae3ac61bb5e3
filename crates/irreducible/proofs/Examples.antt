-- Small worked examples of the definitions of specs/, which the check computes.
use Rattle.std.proofs.Common.{◌≡◌, ℕ, zero, suc, ◌<◌, [], ◌∷◌, slice_index, refl, arith}
use Rattle.irreducible.specs.Span.{combination, InSpan, IsIndependent}
use Rattle.irreducible.specs.Matrix.{AreInverse}

-- of the rows 3 and 5 the choice 11 has the sum 6
sum_of_rows : combination (3 ∷ 5 ∷ []) 3 ≡ 6
sum_of_rows = refl

-- 6 is a sum of these rows
six_in_span : InSpan (3 ∷ 5 ∷ []) 6
six_in_span = record { choice = 3; is = refl }

-- 1 and 3 are independent
one_and_three : IsIndependent (1 ∷ 3 ∷ [])
one_and_three = record { only_zero = only_zero }
  where
    only_zero : (c : ℕ) → c < 4 → combination (1 ∷ 3 ∷ []) c ≡ 0 → c ≡ 0
    only_zero zero h e = refl
    only_zero (suc zero) h e = absurd (omega (arith, e))
    only_zero (suc (suc zero)) h e = absurd (omega (arith, e))
    only_zero (suc (suc (suc zero))) h e = absurd (omega (arith, e))
    only_zero (suc (suc (suc (suc c)))) h e = absurd (omega arith)

-- 1, 2 and 3 are not, for the choice 111 has the sum 0
not_all_three : IsIndependent (1 ∷ 2 ∷ 3 ∷ []) → ⊥
not_all_three free = let none : ◌≡◌ {A = ℕ} 7 0 = free.only_zero 7 (omega arith) refl in omega (arith, none)

-- the matrix with the rows 1 and 3 undoes itself: it takes 2 to 3, and 3 to 2
own_inverse : AreInverse (1 ∷ 3 ∷ []) (1 ∷ 3 ∷ [])
own_inverse = record { size = refl; square = square; after = twice; before = twice }
  where
    square : (i : ℕ) → i < 2 → slice_index (1 ∷ 3 ∷ []) i < 4
    square zero h = omega arith
    square (suc zero) h = omega arith
    square (suc (suc i)) h = absurd (omega arith)

    twice : (v : ℕ) → v < 4 → combination (1 ∷ 3 ∷ []) (combination (1 ∷ 3 ∷ []) v) ≡ v
    twice zero h = refl
    twice (suc zero) h = refl
    twice (suc (suc zero)) h = refl
    twice (suc (suc (suc zero))) h = refl
    twice (suc (suc (suc (suc v)))) h = absurd (omega arith)
