-- Sums of monomials, each with the coefficient 1, as terms in any order. Source: this project's own.
use Rattle.std.specs.Prelude.{◌≡◌, ℕ, ◌&&◌, bit_xor, cond, List, map}
use Rattle.std.specs.List.{AllByRecursion, list_all}
use Rattle.poly_mixed.specs.Monomial.{Monomial}
use Rattle.poly_mixed.specs.Polynomial.{Terms, Point, IsPoint, IsTerm, value}
use Rattle.poly_mixed.specs.Table.{subset_parity, table_bit}

-- each monomial once
abbrev pub units : List Monomial → Terms
units monos = map (λ (m : Monomial). (m, 1)) monos

-- terms of the field
abbrev pub AreTerms : ℕ → Terms → Type 0
AreTerms k ts = AllByRecursion (IsTerm k) ts

-- terms of the field whose sum is the function h of points
pub record IsSumOf (k : ℕ) (mul : ℕ → ℕ → ℕ) (h : Point → ℕ) (ts : Terms) : Type 0 where
  pub terms : AreTerms k ts
  pub values : (p : Point) → IsPoint k p → value mul p ts ≡ h p

-- the value grows by the function h of points
abbrev pub AddsValue : ℕ → (ℕ → ℕ → ℕ) → (Point → ℕ) → Terms → Terms → Type 0
AddsValue k mul h old new = (p : Point) → IsPoint k p → value mul p new ≡ bit_xor (value mul p old) (h p)

-- the value grows by the product of the values of two lists of terms
abbrev pub AddsProducts : ℕ → (ℕ → ℕ → ℕ) → Terms → Terms → Terms → Terms → Type 0
AddsProducts k mul left right old new = AddsValue k mul (λ p. mul (value mul p left) (value mul p right)) old new

-- 1 where all bits of the set are 1 and the form of a table has the place
abbrev pub set_value : List ℕ → ℕ → ℕ → Point → ℕ
set_value set form place p = cond (list_all p.is_one set && table_bit form place) 1 0

-- the sum of these for the set with each set of ranks that the form has, from `base` on by steps of `step`
abbrev pub sets_value : List ℕ → ℕ → List ℕ → ℕ → ℕ → Point → ℕ
sets_value set form ranks base step p = cond (list_all p.is_one set && subset_parity (table_bit form) p.is_one ranks base step) 1 0
