-- What a `BitMatrix` holds. Source: this project's own.
use Rattle.std.specs.Prelude.{ℕ, List, take}
use Rattle.irreducible.specs.declared.bit_matrix.BitMatrix.{BitMatrix}

-- its rows
abbrev pub rows_of : BitMatrix → List ℕ
rows_of matrix = take matrix.count matrix.rows
