-- The order of a text, by the exponents of all variables: the words, then the ranks from 0 on.
-- Source: this project's own.
use Rattle.std.specs.Prelude.{◌≡◌, ℕ, zero, suc, ◌+◌, ◌<◌, cond, List, [], ◌∷◌, ◌++◌, length, nat_eq}
use Rattle.std.specs.List.{AllByRecursion, list_any}
use Rattle.std.specs.List.Sorted.{IsStrictlySortedBy}
use Rattle.std.specs.Ordering.{nat_cmp}
use Rattle.poly_mixed.specs.Monomial.{Monomial, exponents_cmp, text_cmp}

-- the exponents of n ranks from i on: 1 where the rank stands in the set
abbrev pub exponents_from : ℕ → ℕ → List ℕ → List ℕ
exponents_from i zero rs = []
exponents_from i (suc n) rs = cond (list_any (λ r. nat_eq r i) rs) 1 0 ∷ exponents_from (i + 1) n rs

-- the exponents of all variables, where there are n ranks
abbrev pub exponent_list : ℕ → Monomial → List ℕ
exponent_list n m = m.exponents ++ exponents_from 0 n m.bits

-- rising ranks below n
pub record HasRanksBelow (n : ℕ) (m : Monomial) : Type 0 where
  pub rising : IsStrictlySortedBy nat_cmp m.bits
  pub below : AllByRecursion (λ r. r < n) m.bits

-- of two monomials the one with the lexicographically greater list of exponents stands first
abbrev pub IsTextOrder : Type 0
IsTextOrder = (n : ℕ) (x y : Monomial) → length x.exponents ≡ length y.exponents → HasRanksBelow n x → HasRanksBelow n y → text_cmp x y ≡ exponents_cmp (exponent_list n x) (exponent_list n y)
