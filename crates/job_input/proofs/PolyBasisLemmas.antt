-- The polynomial basis by its elements and its dual.
use Rattle.std.proofs.Common.{◌≡◌, ◌^◌, sym, subst, ℕ, List}
use Rattle.gf_basis.specs.Basis.{IsBasis, first_values}
use Rattle.gf_basis.specs.BasisParts.{duals_of, elements_of, IsBasisOver}
use Rattle.gf_basis.specs.Dual.{AreDual}
use Rattle.gf_basis.specs.declared.bases.Basis.{Basis}
use Rattle.gf_basis.proofs.BasisLaws.{IsBasis-from_independent}
use Rattle.gf_basis.proofs.CodeLaws.{length-first_values, AreElements-units, IsIndependent-powers}

-- a basis whose elements are the powers of 2, with their dual, is one over the field
pub poly_over : (k : ℕ) (product : ℕ → ℕ → ℕ) (basis : Basis) → elements_of basis ≡ first_values k (λ i. 2 ^ i) → AreDual k product (elements_of basis) (duals_of basis) → IsBasisOver k product basis
poly_over k product basis powers dual =
    let units : List ℕ = first_values k (λ i. 2 ^ i) in
    let whole : IsBasis k units = IsBasis-from_independent k units (length-first_values k (λ i. 2 ^ i)) (AreElements-units k) (IsIndependent-powers k) in
    record {
      elements = subst (IsBasis k) (sym powers) whole;
      dual = dual;
    }
