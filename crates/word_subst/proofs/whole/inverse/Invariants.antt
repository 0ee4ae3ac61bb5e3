use Rattle.poly_mixed.specs.Polynomial.{IsElement}
use Rattle.word_subst.proofs.whole.inverse.Given as goal

abbrev pub invariant-loop-j : goal.invariant-loop-j
invariant-loop-j g l = record {
  square : IsElement (g.F.Ring.degree l.field) l.square;
  product : IsElement (g.F.Ring.degree l.field) l.product;
}
