-- Whether a product has zero divisors, whether rows are independent, and which number of a list is the first that is no element.
use Rattle.std.proofs.Common.{◌≡◌, ◌≢◌, ◌⊎◌, inl, inr, ℕ, zero, suc, ◌<◌, ◌≤◌, ◌^◌, List, [], ◌∷◌, length, arith}
use Rattle.std.specs.Prelude.{slice_index}
use Rattle.std.proofs.lemmas.Bool.{cases_lt}
use Rattle.gf_field.specs.Element.{AreElements, IsFirstOutside}
use Rattle.gf_field.specs.Field.{HasNoZeroDivisors}
use Rattle.irreducible.specs.Span.{combination, IsIndependent}
use Rattle.reader_laws.proofs.DecidedLemmas.{IsDecided, even_decided, moved_decided}
use Rattle.job_laws.proofs.Searches.{below_decided, implies_decided, not_decided}

-- ---- products

module _ (k : ℕ) (mul : ℕ → ℕ → ℕ) where
  -- no divisor of 0 in these two numbers
  abbrev IsNone : ℕ → ℕ → Type 0
  IsNone a b = a ≢ 0 → b ≢ 0 → mul a b ≢ 0

  pair_decided : (a b : ℕ) → IsDecided (IsNone a b)
  pair_decided a b = implies_decided (not_decided (even_decided a 0)) (implies_decided (not_decided (even_decided b 0)) (not_decided (even_decided (mul a b) 0)))

  pub divisors_decided : IsDecided (HasNoZeroDivisors k mul)
  divisors_decided =
      moved_decided (λ (all : (a : ℕ) → a < 2 ^ k → (b : ℕ) → b < 2 ^ k → IsNone a b). record { nonzero = λ a b first second. all a first b second })
      (λ field a first b second. field.nonzero a b first second) (below_decided (λ a. (b : ℕ) → b < 2 ^ k → IsNone a b) (λ a. below_decided (IsNone a) (pair_decided a) (2 ^ k)) (2 ^ k))

-- ---- rows

pub independent_decided : (rows : List ℕ) → IsDecided (IsIndependent rows)
independent_decided rows =
    moved_decided (λ (all : (c : ℕ) → c < 2 ^ length rows → combination rows c ≡ 0 → c ≡ 0). record { only_zero = all }) (λ free. free.only_zero)
    (below_decided (λ c. combination rows c ≡ 0 → c ≡ 0) (λ c. implies_decided (even_decided (combination rows c) 0) (even_decided c 0)) (2 ^ length rows))

-- ---- elements

module _ (k : ℕ) where
  more_elements : (x : ℕ) (xs : List ℕ) → x < 2 ^ k → AreElements k xs → AreElements k (x ∷ xs)
  more_elements x xs small all zero less = small
  more_elements x xs small all (suc i) less = all i (omega (arith, less))

  before_later : (x : ℕ) (xs : List ℕ) (place : ℕ) → x < 2 ^ k → ((i : ℕ) → i < place → slice_index xs i < 2 ^ k) → (i : ℕ) → i < suc place → slice_index (x ∷ xs) i < 2 ^ k
  before_later x xs place small before zero less = small
  before_later x xs place small before (suc i) less = before i (omega (arith, less))

  later : (x : ℕ) (xs : List ℕ) (place : ℕ) → x < 2 ^ k → IsFirstOutside k xs place → IsFirstOutside k (x ∷ xs) (suc place)
  later x xs place small first = record { within = let less = first.within in omega (arith, less); outside = first.outside; before = before_later x xs place small first.before }

  at_once : (x : ℕ) (xs : List ℕ) → 2 ^ k ≤ x → IsFirstOutside k (x ∷ xs) 0
  at_once x xs large = record { within = omega arith; outside = large; before = λ i less. absurd (omega (arith, less)) }

  pub elements_or : (numbers : List ℕ) → AreElements k numbers ⊎ ((place : ℕ) × IsFirstOutside k numbers place)
  elements_or [] = inl (λ i less. absurd (omega (arith, less)))
  elements_or (x ∷ xs) =
      elim (cases_lt x (2 ^ k)) [
        | inl small ↦ elim (elements_or xs) [ inl all ↦ inl (more_elements x xs small all) | inr found ↦ inr (suc found.0, later x xs found.0 small found.1) ]
        | inr large ↦ inr (0, at_once x xs large)
      ]
