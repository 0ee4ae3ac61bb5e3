use Rattle.std.proofs.Common.{◌≡◌, ◌≢◌, []}
use Rattle.std.specs.List.{AllByRecursion}
use Rattle.poly_mixed.specs.Monomial.{text_cmp}
use Rattle.poly_mixed.specs.Sum.{plus}
use Rattle.word_subst.specs.Spread.{all_terms}
use Rattle.word_subst.proofs.sums.Sums.to_poly.Given as goal

abbrev pub invariant-loop-rest : goal.invariant-loop-rest
invariant-loop-rest l = record {
  some : AllByRecursion (λ g. AllByRecursion (λ t. t.1 ≢ 0) g.1) l.rest-iterator;
  sum : plus text_cmp l.poly.terms (all_terms l.word l.rest-iterator) ≡ plus text_cmp [] (all_terms l.word l.self);
}
