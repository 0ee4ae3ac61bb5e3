use Rattle.std.proofs.Common.{◌≡◌, drop}
use Rattle.poly_mixed.specs.Monomial.{text_cmp}
use Rattle.poly_mixed.specs.Sum.{plus}
use Rattle.word_subst.specs.Spread.{spread}
use Rattle.word_subst.proofs.sums.add_spread.Given as goal

abbrev pub invariant-loop-exponent : goal.invariant-loop-exponent
invariant-loop-exponent l = plus text_cmp l.poly.terms (spread l.word l.rest (drop l.exponent-index l.powers)) ≡ plus text_cmp l.initial.poly.terms (spread l.word l.rest l.powers)
