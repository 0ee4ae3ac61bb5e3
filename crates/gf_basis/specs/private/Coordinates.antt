-- The bits of the numbers 2 to the j in a basis. Source: this project's own.
use Rattle.std.specs.Prelude.{ℕ, ◌<◌, ◌^◌, List, length, slice_index}
use Rattle.gf_basis.specs.Basis.{AreBits}

-- entry j has the bits of 2 to the j, for j below the number of elements
abbrev pub AreCoordinates : (elements rows : List ℕ) → Type 0
AreCoordinates elements rows = (j : ℕ) → j < length elements → AreBits elements (2 ^ j) (slice_index rows j)
