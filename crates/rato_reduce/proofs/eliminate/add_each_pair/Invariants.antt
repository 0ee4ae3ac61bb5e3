use Rattle.std.proofs.Common.{◌≡◌, ◌∷◌, [], drop}
use Rattle.std.specs.List.{AllByRecursion}
use Rattle.poly_mixed.specs.Monomial.{text_cmp}
use Rattle.poly_mixed.specs.Sum.{plus}
use Rattle.rato_reduce.specs.private.CutTerms.{all_products, IsBitTerm}
use Rattle.rato_reduce.specs.Monomials.{monomials}
use Rattle.rato_reduce.proofs.eliminate.add_each_pair.Given as goal

abbrev pub invariant-loop-term : goal.invariant-loop-term
invariant-loop-term l = record {
  each : AllByRecursion IsBitTerm (drop l.term-index l.part);
  sum : plus text_cmp l.cut.terms (all_products (drop l.term-index l.part) (monomials l.form [] (l.first ∷ l.second ∷ []) 0 1)) ≡ plus text_cmp l.initial.cut.terms (all_products l.part (monomials l.form [] (l.first ∷ l.second ∷ []) 0 1));
}
