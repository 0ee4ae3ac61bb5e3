use Rattle.std.proofs.Common.{◌≡◌, ◌≢◌, drop}
use Rattle.std.specs.List.{AllByRecursion}
use Rattle.poly_mixed.specs.Monomial.{text_cmp}
use Rattle.poly_mixed.specs.Sum.{plus}
use Rattle.cert_check.proofs.term_map.TermMap.add_terms.Given as goal

abbrev pub invariant-loop-term : goal.invariant-loop-term
invariant-loop-term l = record {
  nonzero : AllByRecursion (λ t. t.1 ≢ 0) (drop l.term-index l.terms);
  sum : plus text_cmp l.self.terms (drop l.term-index l.terms) ≡ plus text_cmp l.initial.self.terms l.terms;
}
