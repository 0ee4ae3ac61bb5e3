use Rattle.std.proofs.Common.{◌≡◌, drop}
use Rattle.std.specs.List.{AllByRecursion}
use Rattle.poly_mixed.specs.Monomial.{text_cmp}
use Rattle.poly_mixed.specs.Sum.{plus}
use Rattle.rato_reduce.specs.private.CutTerms.{IsBitTerm}
use Rattle.rato_reduce.proofs.bit_term.add_terms.Given as goal

abbrev pub invariant-loop-term : goal.invariant-loop-term
invariant-loop-term l = record {
  each : AllByRecursion IsBitTerm (drop l.term-index l.terms);
  sum : plus text_cmp l.sum.terms (drop l.term-index l.terms) ≡ plus text_cmp l.initial.sum.terms l.terms;
}
