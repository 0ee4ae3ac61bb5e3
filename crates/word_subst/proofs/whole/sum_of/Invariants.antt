use Rattle.std.proofs.Common.{◌≡◌, [], drop}
use Rattle.poly_mixed.specs.Monomial.{text_cmp}
use Rattle.poly_mixed.specs.Sum.{plus}
use Rattle.word_subst.specs.Spread.{all_terms}
use Rattle.word_subst.specs.Whole.{times_word}
use Rattle.word_subst.proofs.whole.sum_of.Given as goal

abbrev pub invariant-loop-rest : goal.invariant-loop-rest
invariant-loop-rest l = plus text_cmp l.poly.terms (all_terms l.word (times_word (drop l.rest-index l.parts))) ≡ plus text_cmp [] (all_terms l.word (times_word l.parts))
