use Rattle.std.proofs.Common.{◌≡◌, ℕ, ◌<◌, ◌^◌, length, get_or}
use Rattle.irreducible.specs.Span.{combination}
use Rattle.irreducible.specs.BitMatrix.{rows_of}
use Rattle.irreducible.proofs.bit_matrix.BitMatrix.inverse.Given as goal

abbrev pub invariant-loop-i : goal.invariant-loop-i
invariant-loop-i l = record {
  whole : length l.rows ≡ 64;
  undo : (j : ℕ) → j < l.i → combination (rows_of l.self) (get_or l.rows j 0) ≡ 2 ^ j;
  short : (j : ℕ) → j < l.i → get_or l.rows j 0 < 2 ^ length (rows_of l.self);
}
