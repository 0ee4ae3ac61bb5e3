-- What an `Iso` is made of. Source: this project's own.
use Rattle.std.specs.Prelude.{ℕ, List, length}
use Rattle.irreducible.specs.BitMatrix.{rows_of}
use Rattle.irreducible.specs.Span.{combination}
use Rattle.gf_iso.specs.Isomorphism.{IsIsoOf}
use Rattle.gf_iso.specs.declared.isos.Iso.{Iso}

-- the number of bits of an element
abbrev pub size_of : Iso → ℕ
size_of iso = length (rows_of iso.images)

-- the map from the tower to the big field
abbrev pub there_of : Iso → ℕ → ℕ
there_of iso a = combination (rows_of iso.images) a

-- the map from the big field to the tower
abbrev pub back_of : Iso → ℕ → ℕ
back_of iso a = combination (rows_of iso.origins) a

-- its maps are the isomorphism from the tower with the coefficients cs, over the field of the modulus g of degree n, to the field with
-- this product
abbrev pub IsIso : (n g : ℕ) → List ℕ → (ℕ → ℕ → ℕ) → Iso → Type 0
IsIso n g cs big iso = IsIsoOf n g cs big (there_of iso) (back_of iso)
