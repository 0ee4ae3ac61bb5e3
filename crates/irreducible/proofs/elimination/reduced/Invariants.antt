use Rattle.irreducible.specs.private.Pivots.{IsCleared}
use Rattle.irreducible.proofs.elimination.reduced.Given as goal

abbrev pub invariant-loop-place : goal.invariant-loop-place
invariant-loop-place l = IsCleared l.sums l.row l.left l.used l.place
