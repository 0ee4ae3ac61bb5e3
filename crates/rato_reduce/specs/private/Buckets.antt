-- Terms in no order, in lists by the level of their bits. Source: this project's own.
use Rattle.std.specs.Prelude.{◌≡◌, ◌≢◌, ℕ, suc, ◌+◌, ◌-◌, ◌<◌, ◌≤◌, cond, List, [], ◌∷◌, ◌++◌, length, Some, slice_get, slice_set}
use Rattle.std.specs.List.{AllByRecursion}
use Rattle.std.specs.List.Sorted.{IsStrictlySortedBy}
use Rattle.std.specs.Ordering.{nat_cmp, eq_by_cmp}
use Rattle.poly_mixed.specs.Monomial.{Monomial, text_cmp}
use Rattle.poly_mixed.specs.Polynomial.{Terms}
use Rattle.poly_mixed.specs.Sum.{plus, xor_sum}
use Rattle.rato_reduce.specs.private.CutKey.{place_at}
use Rattle.rato_reduce.specs.private.CutTerms.{of_bits, IsBitTerm}

-- the coefficient that a term has at a monomial
abbrev pub at_monomial : Monomial → Monomial × ℕ → ℕ
at_monomial q t = cond (eq_by_cmp text_cmp q t.0) t.1 0

-- the coefficient of a monomial in the sum of terms
abbrev pub coefficient_in : Monomial → Terms → ℕ
coefficient_in q ts = xor_sum (at_monomial q) ts

-- the terms have one sum
abbrev pub HaveSameSum : Terms → Terms → Type 0
HaveSameSum old new = (q : Monomial) → coefficient_in q new ≡ coefficient_in q old

-- how long before the end of the elimination a rank is eliminated; 0 where it has no place
abbrev pub level_at : List ℕ → ℕ → ℕ
level_at places rank = length places - place_at places rank

-- no rank is of a greater level
abbrev pub AreUpTo : List ℕ → ℕ → List ℕ → Type 0
AreUpTo places level ranks = AllByRecursion (λ r. level_at places r ≤ level) ranks

-- a product of rising bits, of which none is of a greater level
pub record IsPlaced (places : List ℕ) (level : ℕ) (m : Monomial) : Type 0 where
  pub no_words : m ≡ of_bits m.bits
  pub rising : IsStrictlySortedBy nat_cmp m.bits
  pub up_to : AreUpTo places level m.bits

-- a term of such a product
pub record IsLine (places : List ℕ) (level : ℕ) (t : Monomial × ℕ) : Type 0 where
  pub placed : IsPlaced places level t.0
  pub some : t.1 ≢ 0

-- terms of such products, which may have a coefficient 0
abbrev pub ArePlaced : List ℕ → ℕ → Terms → Type 0
ArePlaced places level ts = AllByRecursion (λ t. IsPlaced places level t.0) ts

-- terms of the same sum and of no greater levels
pub record AreTaken (lines taken : Terms) : Type 0 where
  pub sums : HaveSameSum lines taken
  pub each : (places : List ℕ) (level : ℕ) → AllByRecursion (IsLine places level) lines → AllByRecursion (IsLine places level) taken

-- the terms of all lists
abbrev pub joined : List Terms → Terms
joined [] = []
joined (ts ∷ lists) = ts ++ joined lists

-- what a `Buckets` is: a polynomial, and the place of each rank in the order of elimination
pub record ListedPolynomial : Type 0 where
  pub terms : Terms
  pub places : List ℕ

-- the lists as a polynomial
abbrev pub joined_polynomial : List ℕ → List Terms → ListedPolynomial
joined_polynomial places lists = record { terms = plus text_cmp [] (joined lists); places = places }

-- the bits of the terms of each list are of levels up to its number, where the first list has this one
abbrev pub AreLevelled : List ℕ → ℕ → List Terms → Type 0
AreLevelled places level [] = Unit {0}
AreLevelled places level (ts ∷ lists) = AllByRecursion (IsLine places level) ts × AreLevelled places (suc level) lists

-- what holds of the lists of all levels before holds of those after
abbrev pub StayLevelled : List Terms → List Terms → Type 0
StayLevelled old new = (places : List ℕ) → AreLevelled places 0 old → AreLevelled places 0 new

-- a count that is not at its end is not too small
abbrev pub IsCounted : ℕ → ℕ → Type 0
IsCounted count n = count < 18446744073709551615 → n ≤ count

-- of one list the terms are others
pub record IsListSet (old new : List Terms) (i : ℕ) (before after : Terms) : Type 0 where
  pub got : slice_get old i ≡ Some before
  pub set : new ≡ slice_set old i after

-- one list has a term more, at its end
pub record HasTermAt (old new : List Terms) (i : ℕ) (t : Monomial × ℕ) : Type 0 where
  pub before : Terms
  pub is : IsListSet old new i before (before ++ t ∷ [])

-- terms have the same sum and no greater levels, and a count of them and others is the count of these and the others
pub record IsMerged (before after : Terms) (count n : ℕ) : Type 0 where
  pub sums : HaveSameSum before after
  pub each : (places : List ℕ) (level : ℕ) → AllByRecursion (IsLine places level) before → AllByRecursion (IsLine places level) after
  pub counted : (m : ℕ) → IsCounted count (m + length before) → IsCounted n (m + length after)

-- one list has such other terms
pub record IsMergedAt (old new : List Terms) (i count n : ℕ) : Type 0 where
  pub before : Terms
  pub after : Terms
  pub is : IsListSet old new i before after
  pub merged : IsMerged before after count n

-- what is left when a list was taken from the end, and terms of its sum
pub record AreOut (old new : List Terms) (taken : Terms) : Type 0 where
  pub sums : HaveSameSum (joined old) (joined new ++ taken)
  pub each : (places : List ℕ) → AreLevelled places 0 old → AllByRecursion IsBitTerm taken
