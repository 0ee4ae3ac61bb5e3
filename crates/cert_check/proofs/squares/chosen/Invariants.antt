use Rattle.poly_mixed.specs.Polynomial.{IsElement}
use Rattle.cert_check.proofs.squares.chosen.Given as goal

abbrev pub invariant-loop-i : goal.invariant-loop-i
invariant-loop-i g l = IsElement (g.F.Ring.degree l.field) l.sum
