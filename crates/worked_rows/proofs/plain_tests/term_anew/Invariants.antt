use Rattle.poly_mixed.specs.Polynomial.{IsReduced}
use Rattle.worked_rows.proofs.plain_tests.term_anew.Given as goal

abbrev pub invariant-loop-rank : goal.invariant-loop-rank
invariant-loop-rank g l = IsReduced (g.F.Ring.degree l.field) l.product.terms

abbrev pub invariant-loop-word : goal.invariant-loop-word
invariant-loop-word g l = IsReduced (g.F.Ring.degree l.field) l.product.terms
