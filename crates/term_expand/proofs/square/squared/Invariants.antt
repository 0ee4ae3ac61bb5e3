use Rattle.std.proofs.Common.{take}
use Rattle.poly_mixed.specs.Polynomial.{value, IsPolynomialOf}
use Rattle.term_expand.specs.private.Square.{square_of}
use Rattle.term_expand.proofs.square.squared.Given as goal

abbrev pub invariant-loop-i : goal.invariant-loop-i
invariant-loop-i g l = IsPolynomialOf (g.F.Ring.degree l.field) (g.F.Ring.product l.field) (λ p. square_of (g.F.Ring.product l.field) (value (g.F.Ring.product l.field) p (take l.i l.poly.terms))) l.sum.terms
