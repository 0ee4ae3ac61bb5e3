use Rattle.std.proofs.Common.{subst, sym}
use Rattle.irreducible.specs.Matrix.{IsSquare}
use Rattle.irreducible.proofs.bit_matrix.BitMatrix.new.Goals as goal

pub invariant_of-result-clause-square : goal.invariant_of-result-clause-square
invariant_of-result-clause-square c = subst IsSquare (sym c.filled.ensures.numbers) c.requires.square
