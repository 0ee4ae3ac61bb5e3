use Rattle.irreducible.proofs.MatrixLaws.{Rest}
use Rattle.irreducible.proofs.elimination.combined.Given as goal

abbrev pub invariant-loop-i : goal.invariant-loop-i
invariant-loop-i l = Rest l.rows l.choice l.sum l.i
