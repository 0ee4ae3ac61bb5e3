use Rattle.poly_mixed.specs.Polynomial.{IsReduced}
use Rattle.worked_rows.proofs.plain_tests.sum_anew.Given as goal

abbrev pub invariant-loop-term : goal.invariant-loop-term
invariant-loop-term g l = IsReduced (g.F.Ring.degree l.field) l.sum.terms
