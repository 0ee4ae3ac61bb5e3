use Rattle.std.proofs.Common.{length}
use Rattle.irreducible.specs.BitMatrix.{rows_of}
use Rattle.irreducible.specs.laws.SpanLaws.{combination_below}
use Rattle.irreducible.proofs.bit_matrix.BitMatrix.apply.Goals as goal

pub returns-clause-word : goal.returns-clause-word
returns-clause-word c = rw (c.combined.ensures) (combination_below (rows_of c.args.self.now) (length (rows_of c.args.self.now)) c.args.v c.args.self.now.square)
