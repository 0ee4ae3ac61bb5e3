use Rattle.gf_basis.specs.BasisParts.{elements_of}
use Rattle.poly_mixed.specs.Polynomial.{IsPolynomialOf}
use Rattle.spec_expand.proofs.BitLemmas.{first_places}
use Rattle.spec_expand.proofs.bits.word_in_bits.Given as goal

abbrev pub invariant-loop-i : goal.invariant-loop-i
invariant-loop-i g l =
    IsPolynomialOf (g.F.Ring.degree l.field) (g.F.Ring.product l.field) (first_places (g.F.Ring.degree l.field) (elements_of l.basis) l.word l.i) l.sum.terms
