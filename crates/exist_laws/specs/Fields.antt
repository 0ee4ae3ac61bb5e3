-- That dual bases and isomorphisms exist. Source: Lidl and Niederreiter, Finite Fields, chapter 2, section 3 and theorem 2.5.
use Rattle.std.specs.Prelude.{◌≡◌, ℕ, ◌*◌, List, [], ◌∷◌}
use Rattle.gf_field.specs.Field.{HasNoZeroDivisors}
use Rattle.gf_field.specs.Ring.{IsRing}
use Rattle.gf_basis.specs.Basis.{IsBasis}
use Rattle.gf_basis.specs.BasisParts.{elements_of, IsBasisOver}
use Rattle.gf_basis.specs.declared.bases.Basis.{Basis}
use Rattle.gf_iso.specs.Isomorphism.{IsIsoOf}
use Rattle.gf_iso.specs.private.Fields.{IsTowerField}

-- over a field each basis has its dual, and a value that keeps both
abbrev pub HaveDualBases : Type 0
HaveDualBases = (k : ℕ) (mul : ℕ → ℕ → ℕ) (elements : List ℕ) → IsRing k mul → HasNoZeroDivisors k mul → IsBasis k elements → (basis : Basis) × (elements_of basis ≡ elements) × IsBasisOver k mul basis

-- from a tower of degree 2 to a field of as many elements there is the isomorphism to the least roots
abbrev pub HaveIsomorphisms : Type 0
HaveIsomorphisms =
    (k : ℕ) (big : ℕ → ℕ → ℕ) (n g c0 c1 : ℕ) → IsRing k big → HasNoZeroDivisors k big → IsTowerField n g c0 c1 → k ≡ n * 2
    → (there : ℕ → ℕ) × (back : ℕ → ℕ) × IsIsoOf n g (c0 ∷ c1 ∷ []) big there back
