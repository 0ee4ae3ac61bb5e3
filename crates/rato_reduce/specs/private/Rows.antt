-- Terms in no order, whose bits stand in one list. Source: this project's own.
use Rattle.std.specs.Prelude.{◌≡◌, ℕ, ◌-◌, ◌≤◌, Bool, cond, List, [], ◌∷◌, ◌++◌, take, drop, length, map, bit_xor, Some, slice_get, slice_set}
use Rattle.std.specs.List.{AllByRecursion}
use Rattle.poly_mixed.specs.Monomial.{Monomial}
use Rattle.poly_mixed.specs.Polynomial.{Terms}
use Rattle.poly_mixed.specs.Product.{union}
use Rattle.rato_reduce.specs.declared.row.Row.{Row}
use Rattle.rato_reduce.specs.declared.term.Term.{Term}
use Rattle.rato_reduce.specs.private.Buckets.{ArePlaced, HaveSameSum, IsLine}
use Rattle.rato_reduce.specs.private.CutTerms.{of_bits}

-- the bits of a row
abbrev pub bits_at : List ℕ → Row → List ℕ
bits_at ranks row = take (row.stop - row.start) (drop row.start ranks)

-- the term of a row
abbrev pub line_at : List ℕ → Row → Monomial × ℕ
line_at ranks row = (of_bits (bits_at ranks row), row.coefficient)

-- the terms of rows
abbrev pub lines_of : List ℕ → List Row → Terms
lines_of ranks rows = map (line_at ranks) rows

-- the bits of a term
abbrev pub term_bits : Term → List ℕ
term_bits term = term.front.now ++ term.back.now

-- the product of a term and of a set of bits
abbrev pub product_of : Term → List ℕ → Monomial × ℕ
product_of term set = (of_bits (union (term_bits term) set), term.coefficient)

-- the same, if it is to be added
abbrev pub product_if : Bool → Term → List ℕ → Terms
product_if adds term set = cond adds (product_of term set ∷ []) []

-- a list with more behind it
pub record IsLonger (old new : List ℕ) : Type 0 where
  pub more : List ℕ
  pub is : new ≡ old ++ more

-- the bits of a row stand in the list
pub record IsInside (ranks : List ℕ) (row : Row) : Type 0 where
  pub ordered : row.start ≤ row.stop
  pub inside : row.stop ≤ length ranks

-- the rows at two indices are of the same bits
pub record HaveSameBits (ranks : List ℕ) (rows : List Row) (index i : ℕ) : Type 0 where
  pub one : Row
  pub other : Row
  pub got_one : slice_get rows index ≡ Some one
  pub got_other : slice_get rows i ≡ Some other
  pub same : bits_at ranks one ≡ bits_at ranks other

-- to the coefficient of the row at an index one is added
pub record AddsAt (old new : List Row) (i c : ℕ) : Type 0 where
  pub row : Row
  pub got : slice_get old i ≡ Some row
  pub set : new ≡ slice_set old i (record { start = row.start; stop = row.stop; hash = row.hash; coefficient = bit_xor row.coefficient c })

-- rows of the same products have the same sum
pub record AreAddedUp (ranks : List ℕ) (old new : List Row) : Type 0 where
  pub sums : HaveSameSum (lines_of ranks old) (lines_of ranks new)
  pub each : (places : List ℕ) (level : ℕ) → ArePlaced places level (lines_of ranks old) → ArePlaced places level (lines_of ranks new)
  pub inside : AllByRecursion (IsInside ranks) old → AllByRecursion (IsInside ranks) new

-- rows of the same sum, without a coefficient 0 where there was none
pub record AreMerged (ranks : List ℕ) (old new : List Row) : Type 0 where
  pub sums : HaveSameSum (lines_of ranks old) (lines_of ranks new)
  pub each : (places : List ℕ) (level : ℕ) → AllByRecursion (IsLine places level) (lines_of ranks old) → AllByRecursion (IsLine places level) (lines_of ranks new)
  pub inside : AllByRecursion (IsInside ranks) old → AllByRecursion (IsInside ranks) new
