-- The term of a polynomial whose bits come first, for the clauses of private functions. Source: this project's own.
use Rattle.std.specs.Prelude.{◌≡◌, ◌≢◌, ℕ, zero, suc, ◌+◌, ◌*◌, ◌<◌, cond, List, Some, slice_get, nat_eq, bit_xor}
use Rattle.std.specs.List.{list_any}
use Rattle.std.specs.declared.cmp.Ordering.TheVariants.{Greater}
use Rattle.lists.specs.Lists.{Has}
use Rattle.poly_mixed.specs.Monomial.{Monomial, text_cmp}
use Rattle.poly_mixed.specs.Polynomial.{Terms, Point, IsPoint, IsReduced, value}
use Rattle.poly_mixed.specs.Sum.{plus}
use Rattle.circuit_model.specs.Ones.{ones_cmp}

-- a term before whose bits no other term's bits come
pub record IsFirstTerm (ts : Terms) (t : Monomial × ℕ) : Type 0 where
  pub has : Has ts t
  pub first : (u : Monomial × ℕ) → Has ts u → ones_cmp t.0.bits u.0.bits ≢ Greater

-- the bits of none of the first i terms come before those of the term at this place
abbrev pub IsFirstTo : Terms → ℕ → ℕ → Type 0
IsFirstTo ts i best = (j : ℕ) (t u : Monomial × ℕ) → j < i → slice_get ts best ≡ Some t → slice_get ts j ≡ Some u → ones_cmp t.0.bits u.0.bits ≢ Greater

-- the sum of two polynomials
pub record IsSumOf (k : ℕ) (mul : ℕ → ℕ → ℕ) (ls rs ts : Terms) : Type 0 where
  pub reduced : IsReduced k ts
  pub terms : ts ≡ plus text_cmp ls rs
  pub values : (p : Point) → IsPoint k p → value mul p ts ≡ bit_xor (value mul p ls) (value mul p rs)

-- the number whose bit i is 1 where rank first + i is one of these, for i below count
abbrev pub number_at : List ℕ → ℕ → ℕ → ℕ
number_at ones first zero = 0
number_at ones first (suc count) = cond (list_any (λ x. nat_eq x first) ones) 1 0 + 2 * number_at ones (first + 1) count
