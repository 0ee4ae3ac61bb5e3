-- What a `Basis` is made of. Source: this project's own.
use Rattle.std.specs.Prelude.{ℕ, List, take}
use Rattle.gf_basis.specs.Basis.{IsBasis}
use Rattle.gf_basis.specs.Dual.{AreDual}
use Rattle.gf_basis.specs.declared.bases.Basis.{Basis}

-- its elements
abbrev pub elements_of : Basis → List ℕ
elements_of basis = take basis.count basis.elements

-- the elements of its dual basis
abbrev pub duals_of : Basis → List ℕ
duals_of basis = take basis.count basis.duals

-- the basis is one of the field of 2 to the k elements with this product, and its dual is dual to it
pub record IsBasisOver (k : ℕ) (mul : ℕ → ℕ → ℕ) (basis : Basis) : Type 0 where
  pub elements : IsBasis k (elements_of basis)
  pub dual : AreDual k mul (elements_of basis) (duals_of basis)
