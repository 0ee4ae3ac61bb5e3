use Rattle.std.proofs.Common.{◌≡◌, [], drop}
use Rattle.poly_mixed.specs.Monomial.{text_cmp}
use Rattle.poly_mixed.specs.Sum.{plus}
use Rattle.word_subst.proofs.listed.poly_of.Given as goal

abbrev pub invariant-loop-term : goal.invariant-loop-term
invariant-loop-term l = plus text_cmp l.poly.terms (drop l.term-index l.terms) ≡ plus text_cmp [] l.terms
