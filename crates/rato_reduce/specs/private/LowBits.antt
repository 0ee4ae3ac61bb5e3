-- A rank put among bits behind those that are below it. Source: this project's own.
use Rattle.std.specs.Prelude.{◌≡◌, ℕ, ◌<◌, ◌≤◌, List, ◌++◌, drop, length, slice_index}
use Rattle.std.specs.List.{AllByRecursion}
use Rattle.poly_mixed.specs.Product.{with_rank}

-- a rank comes before bits, if there are any
abbrev pub IsBefore : ℕ → List ℕ → Type 0
IsBefore rank bits = 0 < length bits → rank < slice_index bits 0

-- a list with the bits from one place up to another behind it, which are all below a rank
pub record CopiesLow (bits : List ℕ) (from to rank : ℕ) (old new : List ℕ) : Type 0 where
  pub copied : List ℕ
  pub is : new ≡ old ++ copied
  pub rest : drop from bits ≡ copied ++ drop to bits
  pub low : AllByRecursion (λ r. r < rank) copied

-- a list with bits behind it, none above a rank: these, and then the bits from `to` on and any that the rank comes before, are the
-- bits from `from` on and those with the rank put in
pub record AddsLow (bits : List ℕ) (from to rank : ℕ) (old new : List ℕ) : Type 0 where
  pub added : List ℕ
  pub is : new ≡ old ++ added
  pub low : AllByRecursion (λ r. r ≤ rank) added
  pub united : (more : List ℕ) → IsBefore rank more → with_rank (drop from bits ++ more) rank ≡ added ++ (drop to bits ++ more)
