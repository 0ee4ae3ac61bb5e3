-- Terms that wait to be added to a polynomial, in no order; one may have the coefficient 0. Source: this project's own.
use Rattle.std.specs.Prelude.{◌≡◌, ℕ, ◌+◌, ◌==◌, not, cond, [], ◌∷◌, bit_xor, Some, filter, slice_get, slice_set}
use Rattle.std.specs.List.{AllByRecursion}
use Rattle.std.specs.List.Sorted.{IsStrictlySortedBy}
use Rattle.std.specs.Ordering.{nat_cmp, eq_by_cmp}
use Rattle.poly_mixed.specs.Monomial.{Monomial, text_cmp}
use Rattle.poly_mixed.specs.Polynomial.{Terms}
use Rattle.poly_mixed.specs.Sum.{xor_sum}

-- a polynomial with terms that wait: its terms, how many of them stand in the map, and how many wait
pub record Gathered : Type 0 where
  pub terms : Terms
  pub counted : ℕ
  pub waiting : ℕ

-- a number that its terms are not more than
abbrev pub most_of : Gathered → ℕ
most_of g = g.counted + g.waiting

-- the coefficient of a monomial in the sum of terms
abbrev pub share_in : Monomial → Terms → ℕ
share_in q ts = xor_sum (λ t. cond (eq_by_cmp text_cmp q t.0) t.1 0) ts

-- the sum grows by a term
abbrev pub GrowsByTerm : Terms → Terms → Monomial × ℕ → Type 0
GrowsByTerm old new t = (q : Monomial) → share_in q new ≡ bit_xor (share_in q old) (share_in q (t ∷ []))

-- the sum is the same
abbrev pub HaveSameSum : Terms → Terms → Type 0
HaveSameSum old new = (q : Monomial) → share_in q new ≡ share_in q old

-- the ranks of each monomial rise
abbrev pub HaveRisingRanks : Terms → Type 0
HaveRisingRanks ts = AllByRecursion (λ t. IsStrictlySortedBy nat_cmp t.0.bits) ts

-- those whose coefficient is not 0
abbrev pub nonzero_of : Terms → Terms
nonzero_of ts = filter (λ (t : Monomial × ℕ). not (t.1 == 0)) ts

-- the term at an index is of this monomial
pub record HasMonomialAt (ts : Terms) (i : ℕ) (m : Monomial) : Type 0 where
  pub term : Monomial × ℕ
  pub got : slice_get ts i ≡ Some term
  pub is : term.0 ≡ m

-- to the coefficient of the term at an index one is added
pub record AddsAt (old new : Terms) (i c : ℕ) : Type 0 where
  pub term : Monomial × ℕ
  pub got : slice_get old i ≡ Some term
  pub set : new ≡ slice_set old i (term.0, bit_xor term.1 c)
